-- Logs among texts: what a log has after its first lines, and the first bad line of what is no log.
use Rattle.std.proofs.Common.{◌≡◌, ℕ, ◌+◌, ◌⊎◌, true, false, List, [], ◌∷◌, ◌++◌, length, Some, None, inl, inr, refl, sym, ap, subst, ◌∙◌, append_assoc, arith}
use Rattle.std.specs.List.{concat}
use Rattle.std.specs.Str.{bytes_eq}
use Rattle.std.proofs.lemmas.Bool.{false≢true}
use Rattle.std.proofs.lemmas.Slice.Eq.{bytes_eq-Decides}
use Rattle.dcsp_defs.specs.declared.Step.{Step}
use Rattle.ngd_log.specs.StepText.{step_line, IsStepLine}
use Rattle.ngd_log.specs.Lines.{lines}
use Rattle.ngd_log.specs.Logs.{step_lines, log_lines, AreWritable, IsLogOf, AreLogLines, IsFirstBad}
use Rattle.ngd_log.specs.Reading.{step_of}
use Rattle.ngd_log.proofs.LineFeeds.{concat-lines}
use Rattle.ngd_log.proofs.LineLaws.{step_takes, step_none}
use Rattle.ngd_log.proofs.LogLines.{head, tail, front_lines, length-step_lines, AreNumbered, step_lines-push, not_tail, log_text_is, AreWritable-push, cons_head, cons_tail, IsNextLine, next_line, no_stop}
use Rattle.ngd_log.proofs.BadLines.{AreFronts, bad_first, bad_end, bad_next, bad_beyond}

-- steps that can be written are numbered from 1
pub from_one : (steps : List Step) → AreWritable steps → AreNumbered 1 steps
from_one steps w = let c = w.count in (omega arith, omega arith)

-- the derivation without steps can be written
pub no_steps : AreWritable []
no_steps = record { count = omega arith; each = tt }

-- the text's lines begin with those of these steps
pub record HasFront (text : List ℕ) (steps : List Step) (others : List (List ℕ)) : Type 0 where
  pub writable : AreWritable steps
  pub front : lines text ≡ front_lines steps ++ others

-- a line for each step, and one more
pub length-front : (steps : List Step) → length (front_lines steps) ≡ length steps + 1
length-front steps = let h = length-step_lines 1 steps in omega arith

-- the lines with one step more
pub front_push : (steps : List Step) (line : List ℕ) (s : Step) → AreWritable steps → IsStepLine (length steps + 1) line s → AreWritable (steps ++ s ∷ []) × (front_lines (steps ++ s ∷ []) ≡ front_lines steps ++ line ∷ [])
front_push steps line s w is =
    let k : 1 + length steps ≡ length steps + 1 = omega arith in (
      AreWritable-push steps s w is.numbered is.writable,
      ap (λ (x : List (List ℕ)). head ∷ x) (step_lines-push 1 steps s ∙ ap (λ (l : List ℕ). step_lines 1 steps ++ l ∷ []) (ap (λ (n : ℕ). step_line n s) k ∙ sym is.same)),
    )

-- what a log has after the lines of these steps
pub follows : (steps : List Step) (line : List ℕ) (others : List (List ℕ)) → AreWritable steps → AreLogLines (front_lines steps ++ line ∷ others) → IsNextLine (length steps + 1) line others
follows steps line others w b =
    let k : 1 + length steps ≡ length steps + 1 = omega arith in
    subst (λ (n : ℕ). IsNextLine n line others) k (next_line 1 b.0 steps line others (from_one b.0 b.1) (from_one steps w) b.1.each (cons_tail _ _ _ _ b.2))

-- ---- logs among texts

-- steps that can be written
abbrev pub Writable : Type 0
Writable = (steps : List Step) × AreWritable steps

-- the lines of a log before `end`
abbrev pub front_of : Writable → List (List ℕ)
front_of w = front_lines w.0

-- a first line is `ngd 1` or no log's
first_line : (line : List ℕ) → ((w : Writable) × (front_of w ≡ line ∷ [])) ⊎ ((more : List (List ℕ)) → AreLogLines (line ∷ more) → ⊥)
first_line line =
    let d = bytes_eq-Decides line head in
    (elim (bytes_eq line head) as (λ t. bytes_eq line head ≡ t → ((w : Writable) × (front_of w ≡ line ∷ [])) ⊎ ((more : List (List ℕ)) → AreLogLines (line ∷ more) → ⊥)) [
      | true ↦ λ e. inl (([], no_steps), ap (λ (l : List ℕ). l ∷ []) (sym (d.0 e)))
      | false ↦ λ e. inr (λ more b. false≢true (sym e ∙ d.1 (sym (cons_head _ _ _ _ b.2))))
    ]) refl

-- a line after those of steps is the next step's, or no log has it
next_step : (w : Writable) (line : List ℕ) → (line ≡ tail → ⊥) → ((v : Writable) × (front_of v ≡ front_of w ++ line ∷ [])) ⊎ ((more : List (List ℕ)) → AreLogLines (front_of w ++ line ∷ more) → ⊥)
next_step w line n =
    (elim (step_of (length w.0 + 1) line) as (λ o. step_of (length w.0 + 1) line ≡ o → ((v : Writable) × (front_of v ≡ front_of w ++ line ∷ [])) ⊎ ((more : List (List ℕ)) → AreLogLines (front_of w ++ line ∷ more) → ⊥)) [
      | None ↦ λ r. inr (λ more b. elim (follows w.0 line more w.1 b).kind [ inl s ↦ step_none (length w.0 + 1) line s.0 r s.1 | inr t ↦ n t.0 ])
      | Some s ↦ λ r. let p = front_push w.0 line s w.1 (step_takes (length w.0 + 1) line s r) in inl ((w.0 ++ s ∷ [], p.0), p.1)
    ]) refl

-- `end` is the last line
ends_there : (w : Writable) (line : List ℕ) (more : List (List ℕ)) → AreLogLines (front_of w ++ tail ∷ line ∷ more) → ⊥
ends_there w line more b =
    let c = w.1.count in
    elim (follows w.0 tail (line ∷ more) w.1 b).kind [
      | inl s ↦ not_tail (length w.0 + 1) s.0 (omega arith) (sym s.1.same)
      | inr t ↦ let none = t.1 in cc
    ]

pub are_fronts : AreFronts AreLogLines tail front_of
are_fronts = record {
  some = (log_lines [], ([], no_steps, refl));
  none = λ b. let e = b.2 in cc;
  first = first_line;
  next = next_step;
  ends = λ w. (w.0, w.1, refl);
  ends_there = ends_there;
  goes_on = λ w b. no_stop 1 b.0 w.0 (from_one w.0 w.1) (cons_tail _ _ _ _ b.2);
}

-- ---- their first bad lines

-- the first line is bad where it is not `ngd 1`
pub bad_head : (text : List ℕ) → ((others : List (List ℕ)) → lines text ≡ head ∷ others → ⊥) → IsFirstBad text 1
bad_head text n = bad_first AreLogLines tail front_of are_fronts text (λ w others e. n (step_lines 1 w.0 ++ others) e)

-- the line after those of the steps is bad where there is none
pub bad_stop : (text : List ℕ) (steps : List Step) → HasFront text steps [] → IsFirstBad text (length steps + 2)
bad_stop text steps f =
    let number : length (front_lines steps) + 1 ≡ length steps + 2 = let g = length-front steps in omega arith in
    subst (IsFirstBad text) number (bad_end AreLogLines tail front_of are_fronts text (steps, f.writable) f.front)

-- the line after those of the steps is bad where it is neither the next step's nor `end`
pub bad_line : (text : List ℕ) (steps : List Step) (line : List ℕ) (others : List (List ℕ)) → HasFront text steps (line ∷ others)
    → ((step : Step) → IsStepLine (length steps + 1) line step → ⊥) → (line ≡ tail → ⊥) → IsFirstBad text (length steps + 2)
bad_line text steps line others f no_step no_end =
    let number : length (front_lines steps) + 1 ≡ length steps + 2 = let g = length-front steps in omega arith in
    subst (IsFirstBad text) number (bad_next AreLogLines tail front_of are_fronts text (steps, f.writable) line others f.front
    (λ more b. elim (follows steps line more f.writable b).kind [ inl s ↦ no_step s.0 s.1 | inr t ↦ no_end t.0 ]))

-- a line after `end` is bad
pub bad_rest : (text : List ℕ) (steps : List Step) (line : List ℕ) (others : List (List ℕ)) → HasFront text steps (tail ∷ line ∷ others) → IsFirstBad text (length steps + 3)
bad_rest text steps line others f =
    let number : length (front_lines steps) + 2 ≡ length steps + 3 = let g = length-front steps in omega arith in
    subst (IsFirstBad text) number (bad_beyond AreLogLines tail front_of are_fronts text (steps, f.writable) line others f.front)

-- one step more
pub front_more : (text : List ℕ) (steps : List Step) (line : List ℕ) (others : List (List ℕ)) (s : Step) → HasFront text steps (line ∷ others) → IsStepLine (length steps + 1) line s → HasFront text (steps ++ s ∷ []) others
front_more text steps line others s f is =
    let more = front_push steps line s f.writable is in
    record {
      writable = more.0;
      front = f.front ∙ sym (append_assoc (front_lines steps) (line ∷ []) others) ∙ ap (λ (x : List (List ℕ)). x ++ others) (sym more.1);
    }

-- the text is the log whose lines it has
pub log_of_lines : (text : List ℕ) (steps : List Step) → AreWritable steps → log_lines steps ≡ lines text → IsLogOf text steps
log_of_lines text steps w e = record { writable = w; same = sym (concat-lines text) ∙ ap concat (sym e) ∙ sym (log_text_is steps) }

-- the text is the log where `end` comes last
pub log_of_front : (text : List ℕ) (steps : List Step) → HasFront text steps (tail ∷ []) → IsLogOf text steps
log_of_front text steps f = log_of_lines text steps f.writable (sym f.front)
