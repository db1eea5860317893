-- Schedules among texts: what a schedule has after its first lines, and the first bad line of what is none.
use Rattle.std.proofs.Common.{◌≡◌, ℕ, ◌+◌, ◌<◌, ◌^◌, ◌⊎◌, true, false, List, [], ◌∷◌, ◌++◌, map, length, inl, inr, refl, sym, ap, subst, ◌∙◌, append_assoc, arith}
use Rattle.std.specs.List.{concat}
use Rattle.std.specs.Str.{bytes_eq}
use Rattle.std.proofs.lemmas.Bool.{false≢true}
use Rattle.std.proofs.lemmas.List.{length-map}
use Rattle.std.proofs.lemmas.Slice.Eq.{bytes_eq-Decides}
use Rattle.ngd_log.specs.Lines.{lines}
use Rattle.ngd_log.proofs.Each.{each_push}
use Rattle.ngd_log.proofs.LineFeeds.{concat-lines}
use Rattle.ngd_log.proofs.LogLines.{tail, cons_head, cons_tail}
use Rattle.ngd_log.proofs.BadLines.{AreFronts, bad_first, bad_end, bad_next, bad_beyond}
use Rattle.abt_schedule.specs.Schedules.{choice_line, schedule_lines, AreChoices, IsChoiceLine, IsScheduleOf, AreScheduleLines, IsFirstBad}
use Rattle.abt_schedule.proofs.ScheduleLines.{head, front_lines, not_tail, choice_lines-push, IsNextLine, next_line, no_stop, choice_or_not}

-- the text's lines begin with those of these choices
pub record HasFront (text choices : List ℕ) (others : List (List ℕ)) : Type 0 where
  pub in_range : AreChoices choices
  pub front : lines text ≡ front_lines choices ++ others

-- a line for each choice, and one more
pub length-front : (choices : List ℕ) → length (front_lines choices) ≡ length choices + 1
length-front choices = let h = length-map choices choice_line in omega arith

-- the lines with one choice more
pub front_push : (choices : List ℕ) (line : List ℕ) (choice : ℕ) → AreChoices choices → IsChoiceLine line choice → AreChoices (choices ++ choice ∷ []) × (front_lines (choices ++ choice ∷ []) ≡ front_lines choices ++ line ∷ [])
front_push choices line choice in_range is = (
  each_push (λ c. c < 2 ^ 32) choices choice in_range is.in_range,
  ap (λ (x : List (List ℕ)). head ∷ x) (choice_lines-push choices choice ∙ ap (λ (l : List ℕ). map choice_line choices ++ l ∷ []) (sym is.same)),
)

-- what a schedule has after the lines of these choices
pub follows : (choices : List ℕ) (line : List ℕ) (others : List (List ℕ)) → AreChoices choices → AreScheduleLines (front_lines choices ++ line ∷ others) → IsNextLine line others
follows choices line others in_range b = next_line b.0 choices line others b.1 (cons_tail _ _ _ _ b.2) in_range

-- ---- schedules among texts

-- choices that have a schedule
abbrev pub Choices : Type 0
Choices = (choices : List ℕ) × AreChoices choices

-- the lines of their schedule before `end`
abbrev pub front_of : Choices → List (List ℕ)
front_of c = front_lines c.0

-- a first line is `schedule 1` or no schedule's
first_line : (line : List ℕ) → ((c : Choices) × (front_of c ≡ line ∷ [])) ⊎ ((more : List (List ℕ)) → AreScheduleLines (line ∷ more) → ⊥)
first_line line =
    let d = bytes_eq-Decides line head in
    (elim (bytes_eq line head) as (λ t. bytes_eq line head ≡ t → ((c : Choices) × (front_of c ≡ line ∷ [])) ⊎ ((more : List (List ℕ)) → AreScheduleLines (line ∷ more) → ⊥)) [
      | true ↦ λ e. inl (([], tt), ap (λ (l : List ℕ). l ∷ []) (sym (d.0 e)))
      | false ↦ λ e. inr (λ more b. false≢true (sym e ∙ d.1 (sym (cons_head _ _ _ _ b.2))))
    ]) refl

-- a line after those of choices is a choice's, or no schedule has it
next_choice : (c : Choices) (line : List ℕ) → (line ≡ tail → ⊥) → ((d : Choices) × (front_of d ≡ front_of c ++ line ∷ [])) ⊎ ((more : List (List ℕ)) → AreScheduleLines (front_of c ++ line ∷ more) → ⊥)
next_choice c line n =
    elim (choice_or_not line) [
      | inl is ↦ let p = front_push c.0 line is.0 c.1 is.1 in inl ((c.0 ++ is.0 ∷ [], p.0), p.1)
      | inr none ↦ inr (λ more b. elim (follows c.0 line more c.1 b).kind [ inl s ↦ none s.0 s.1 | inr t ↦ n t.0 ])
    ]

-- `end` is the last line
ends_there : (c : Choices) (line : List ℕ) (more : List (List ℕ)) → AreScheduleLines (front_of c ++ tail ∷ line ∷ more) → ⊥
ends_there c line more b =
    elim (follows c.0 tail (line ∷ more) c.1 b).kind [
      | inl s ↦ not_tail s.0 s.1.in_range (sym s.1.same)
      | inr t ↦ let none = t.1 in cc
    ]

pub are_fronts : AreFronts AreScheduleLines tail front_of
are_fronts = record {
  some = (schedule_lines [], ([], tt, refl));
  none = λ b. let e = b.2 in cc;
  first = first_line;
  next = next_choice;
  ends = λ c. (c.0, c.1, refl);
  ends_there = ends_there;
  goes_on = λ c b. no_stop b.0 c.0 c.1 (cons_tail _ _ _ _ b.2);
}

-- ---- their first bad lines

-- the first line is bad where it is not `schedule 1`
pub bad_head : (text : List ℕ) → ((others : List (List ℕ)) → lines text ≡ head ∷ others → ⊥) → IsFirstBad text 1
bad_head text n = bad_first AreScheduleLines tail front_of are_fronts text (λ c others e. n (map choice_line c.0 ++ others) e)

-- the line after those of the choices is bad where there is none
pub bad_stop : (text choices : List ℕ) → HasFront text choices [] → IsFirstBad text (length choices + 2)
bad_stop text choices f =
    let number : length (front_lines choices) + 1 ≡ length choices + 2 = let g = length-front choices in omega arith in
    subst (IsFirstBad text) number (bad_end AreScheduleLines tail front_of are_fronts text (choices, f.in_range) f.front)

-- the line after those of the choices is bad where it is neither a choice's nor `end`
pub bad_line : (text choices line : List ℕ) (others : List (List ℕ)) → HasFront text choices (line ∷ others)
    → ((choice : ℕ) → IsChoiceLine line choice → ⊥) → (line ≡ tail → ⊥) → IsFirstBad text (length choices + 2)
bad_line text choices line others f no_choice no_end =
    let number : length (front_lines choices) + 1 ≡ length choices + 2 = let g = length-front choices in omega arith in
    subst (IsFirstBad text) number (bad_next AreScheduleLines tail front_of are_fronts text (choices, f.in_range) line others f.front
    (λ more b. elim (follows choices line more f.in_range b).kind [ inl s ↦ no_choice s.0 s.1 | inr t ↦ no_end t.0 ]))

-- a line after `end` is bad
pub bad_rest : (text choices line : List ℕ) (others : List (List ℕ)) → HasFront text choices (tail ∷ line ∷ others) → IsFirstBad text (length choices + 3)
bad_rest text choices line others f =
    let number : length (front_lines choices) + 2 ≡ length choices + 3 = let g = length-front choices in omega arith in
    subst (IsFirstBad text) number (bad_beyond AreScheduleLines tail front_of are_fronts text (choices, f.in_range) line others f.front)

-- one choice more
pub front_more : (text choices line : List ℕ) (others : List (List ℕ)) (choice : ℕ) → HasFront text choices (line ∷ others) → IsChoiceLine line choice → HasFront text (choices ++ choice ∷ []) others
front_more text choices line others choice f is =
    let more = front_push choices line choice f.in_range is in
    record {
      in_range = more.0;
      front = f.front ∙ sym (append_assoc (front_lines choices) (line ∷ []) others) ∙ ap (λ (x : List (List ℕ)). x ++ others) (sym more.1);
    }

-- the text is the schedule whose lines it has
pub schedule_of_lines : (text choices : List ℕ) → AreChoices choices → schedule_lines choices ≡ lines text → IsScheduleOf text choices
schedule_of_lines text choices in_range e = record { in_range = in_range; same = sym (concat-lines text) ∙ ap concat (sym e) }

-- the text is the schedule where `end` comes last
pub schedule_of_front : (text choices : List ℕ) → HasFront text choices (tail ∷ []) → IsScheduleOf text choices
schedule_of_front text choices f = schedule_of_lines text choices f.in_range (sym f.front)
