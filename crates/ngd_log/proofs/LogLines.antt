-- The lines of logs.
use Rattle.std.proofs.Common.{◌≡◌, ℕ, ◌+◌, ◌<◌, ◌≤◌, ◌^◌, ◌⊎◌, List, [], ◌∷◌, ◌++◌, length, get_or, inl, inr, refl, sym, ap, ◌∙◌, append_assoc, arith}
use Rattle.std.specs.Prelude.{codes}
use Rattle.std.specs.List.{AllByRecursion, concat}
use Rattle.std.specs.Char.{is_ascii_digit}
use Rattle.std.proofs.lemmas.Bool.{false≢true}
use Rattle.std.proofs.lemmas.List.{append-nil, length_push}
use Rattle.std.proofs.lemmas.List.Folds.{concat-append}
use Rattle.dcsp_defs.specs.declared.Step.{Step}
use Rattle.ngd_log.specs.StepText.{step_line, IsStepNumber, IsWritable, IsStepLine}
use Rattle.ngd_log.specs.Lines.{lines, IsLine}
use Rattle.ngd_log.specs.Logs.{step_lines, log_lines, open_log, log_text, AreWritable, IsLogOf}
use Rattle.ngd_log.proofs.Each.{each_push, each_append}
use Rattle.dcsp_common.proofs.Decimals.{begins_decimal}
use Rattle.ngd_log.proofs.LineLaws.{rest_text, step_line_is}
use Rattle.ngd_log.proofs.LineFeeds.{step_line-IsLine, lines-concat}

-- the first line
abbrev pub head : List ℕ
head = codes "ngd 1\n"

-- the last line
abbrev pub tail : List ℕ
tail = codes "end\n"

-- the lines of a log before `end`
abbrev pub front_lines : List Step → List (List ℕ)
front_lines steps = head ∷ step_lines 1 steps

-- the first line is a line
pub head-IsLine : IsLine head
head-IsLine = record { body = codes "ngd 1"; plain = (refl, (refl, (refl, (refl, (refl, tt))))); same = refl }

-- the last line is a line
pub tail-IsLine : IsLine tail
tail-IsLine = record { body = codes "end"; plain = (refl, (refl, (refl, tt))); same = refl }

-- a line for each step
pub length-step_lines : (number : ℕ) (steps : List Step) → length (step_lines number steps) ≡ length steps
length-step_lines number [] = refl
length-step_lines number (s ∷ steps) = let h = length-step_lines (number + 1) steps in omega arith

-- the numbers of these steps are steps' numbers
abbrev pub AreNumbered : ℕ → List Step → Type 0
AreNumbered number steps = (0 < number) × (number + length steps ≤ 2 ^ 62 + 1)

-- the lines with one step more
pub step_lines-push : (number : ℕ) (steps : List Step) (s : Step) → step_lines number (steps ++ s ∷ []) ≡ step_lines number steps ++ step_line (number + length steps) s ∷ []
step_lines-push number [] s = let e : number + 0 ≡ number = omega arith in rw e refl
step_lines-push number (t ∷ steps) s =
    let e : number + 1 + length steps ≡ number + length (t ∷ steps) = omega arith in
    ap (λ (x : List (List ℕ)). step_line number t ∷ x) (step_lines-push (number + 1) steps s ∙ ap (λ (k : ℕ). step_lines (number + 1) steps ++ step_line k s ∷ []) e)

-- each is a line
pub step_lines-IsLine : (number : ℕ) (steps : List Step) → AreNumbered number steps → AllByRecursion IsWritable steps → AllByRecursion IsLine (step_lines number steps)
step_lines-IsLine number [] n h = tt
step_lines-IsLine number (s ∷ steps) n h =
    (step_line-IsLine number s (record { positive = n.0; bounded = omega arith }) h.0, step_lines-IsLine (number + 1) steps (omega arith, omega arith) h.1)

-- a step's line is not `end`
pub not_tail : (number : ℕ) (step : Step) → number < 2 ^ 64 → step_line number step ≡ tail → ⊥
not_tail number step small e =
    let b = begins_decimal number (codes " " ++ rest_text step.variable step.nogood step.reasons) small in
    let whole : b.first ∷ b.others ≡ tail = sym b.parts ∙ sym (step_line_is number step) ∙ e in
    let first : b.first ≡ 101 = ap (λ (x : List ℕ). get_or x 0 0) whole in
    false≢true (ap is_ascii_digit (sym first) ∙ b.digit)

-- the log is made up of its lines
pub log_text_is : (steps : List Step) → log_text steps ≡ concat (log_lines steps)
log_text_is steps = sym (concat-append (front_lines steps) (tail ∷ []) ∙ ap (λ (t : List ℕ). open_log steps ++ t) (append-nil tail))

-- a log that goes on by one step
pub open_log-push : (steps : List Step) (s : Step) → open_log (steps ++ s ∷ []) ≡ open_log steps ++ step_line (length steps + 1) s
open_log-push steps s =
    let k : 1 + length steps ≡ length steps + 1 = omega arith in
    let more : step_lines 1 (steps ++ s ∷ []) ≡ step_lines 1 steps ++ step_line (length steps + 1) s ∷ [] = step_lines-push 1 steps s ∙ ap (λ (n : ℕ). step_lines 1 steps ++ step_line n s ∷ []) k in
    ap (λ (ls : List (List ℕ)). head ++ concat ls) more
    ∙ ap (λ (t : List ℕ). head ++ t) (concat-append (step_lines 1 steps) (step_line (length steps + 1) s ∷ []) ∙ ap (λ (t : List ℕ). concat (step_lines 1 steps) ++ t) (append-nil (step_line (length steps + 1) s)))
    ∙ sym (append_assoc head (concat (step_lines 1 steps)) (step_line (length steps + 1) s))

-- and is still one that can be written
pub AreWritable-push : (steps : List Step) (s : Step) → AreWritable steps → IsStepNumber (length steps + 1) → IsWritable s → AreWritable (steps ++ s ∷ [])
AreWritable-push steps s w n i =
    let p = length_push steps s in
    let most = n.bounded in
    record { count = omega arith; each = each_push IsWritable steps s w.each i }

-- the lines of a text that begins as a log does
pub lines_of_front : (steps : List Step) (rest : List ℕ) → AreWritable steps → lines (concat (front_lines steps) ++ rest) ≡ front_lines steps ++ lines rest
lines_of_front steps rest w =
    let c = w.count in
    lines-concat (front_lines steps) rest (head-IsLine, step_lines-IsLine 1 steps (omega arith, omega arith) w.each)

-- the lines of a text that begins with a log
pub lines_of_log : (steps : List Step) (rest : List ℕ) → AreWritable steps → lines (log_text steps ++ rest) ≡ log_lines steps ++ lines rest
lines_of_log steps rest w =
    let c = w.count in
    ap (λ (t : List ℕ). lines (t ++ rest)) (log_text_is steps) ∙ lines-concat (log_lines steps) rest (each_append IsLine (front_lines steps) (tail ∷ []) (head-IsLine, step_lines-IsLine 1 steps (omega arith, omega arith) w.each) (tail-IsLine, tt))

-- the lines of a log
pub lines_of_whole : (steps : List Step) (text : List ℕ) → IsLogOf text steps → lines text ≡ log_lines steps
lines_of_whole steps text is = ap lines (is.same ∙ sym (append-nil (log_text steps))) ∙ lines_of_log steps [] is.writable ∙ append-nil (log_lines steps)

-- equal lists have equal first items
pub cons_head : {X : Type 0} (x y : X) (xs ys : List X) → x ∷ xs ≡ y ∷ ys → x ≡ y
cons_head x y xs ys e = cc

-- equal lists are equal after the first item
pub cons_tail : {X : Type 0} (x y : X) (xs ys : List X) → x ∷ xs ≡ y ∷ ys → xs ≡ ys
cons_tail x y xs ys e = cc

-- what a log has after the lines of these steps: a step's line with the next number, or `end` and no more
pub record IsNextLine (number : ℕ) (line : List ℕ) (others : List (List ℕ)) : Type 0 where
  pub kind : ((step : Step) × IsStepLine number line step) ⊎ ((line ≡ tail) × (others ≡ []))

-- what stands after the lines of these steps
pub next_line : (number : ℕ) (a b : List Step) (line : List ℕ) (others : List (List ℕ)) → AreNumbered number a → AreNumbered number b → AllByRecursion IsWritable a
    → step_lines number a ++ tail ∷ [] ≡ step_lines number b ++ line ∷ others → IsNextLine (number + length b) line others
next_line number [] [] line others n m w e = record { kind = inr (sym (cons_head _ _ _ _ e), sym (cons_tail _ _ _ _ e)) }
next_line number (s ∷ a) [] line others n m w e =
    let k : number + 0 ≡ number = omega arith in
    rw k (record { kind = inl (s, record { numbered = record { positive = n.0; bounded = omega arith }; writable = w.0; same = sym (cons_head _ _ _ _ e) }) })
next_line number [] (t ∷ b) line others n m w e = absurd (not_tail number t (omega arith) (sym (cons_head _ _ _ _ e)))
next_line number (s ∷ a) (t ∷ b) line others n m w e =
    let k : number + 1 + length b ≡ number + length (t ∷ b) = omega arith in
    rw (← k) (next_line (number + 1) a b line others (omega arith, omega arith) (omega arith, omega arith) w.1 (cons_tail _ _ _ _ e))

-- a log does not stop after the lines of its steps
pub no_stop : (number : ℕ) (a b : List Step) → AreNumbered number b → step_lines number a ++ tail ∷ [] ≡ step_lines number b → ⊥
no_stop number [] [] m e = cc
no_stop number (s ∷ a) [] m e = cc
no_stop number [] (t ∷ b) m e = not_tail number t (omega arith) (sym (cons_head _ _ _ _ e))
no_stop number (s ∷ a) (t ∷ b) m e = no_stop (number + 1) a b (omega arith, omega arith) (cons_tail _ _ _ _ e)
