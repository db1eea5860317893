-- Each text is a log or has one first bad line, and different logs differ.
use Rattle.std.proofs.Common.{◌≡◌, ℕ, ◌+◌, ◌⊎◌, List, [], ◌∷◌, ◌++◌, inl, inr, refl, sym, ap, subst, ◌∙◌, append_assoc, arith}
use Rattle.std.specs.List.{AllByRecursion}
use Rattle.std.proofs.lemmas.List.{append-nil}
use Rattle.dcsp_defs.specs.declared.Step.{Step}
use Rattle.ngd_log.specs.StepText.{IsWritable}
use Rattle.ngd_log.specs.Lines.{lines}
use Rattle.ngd_log.specs.Logs.{AreWritable, step_lines, log_lines, log_text, IsLogOf, AreLogLines, IsFirstBad, LogOrBadLine, LogsDiffer, NextLine}
use Rattle.ngd_log.proofs.LineLaws.{one_step}
use Rattle.ngd_log.proofs.LineFeeds.{no_lines}
use Rattle.ngd_log.proofs.LogLines.{tail, front_lines, AreNumbered, not_tail, lines_of_log, lines_of_whole, cons_head, cons_tail}
use Rattle.ngd_log.proofs.BadLines.{one_line, not_both, whole_or_bad}
use Rattle.ngd_log.proofs.FirstBad.{from_one, front_push, follows, front_of, are_fronts, log_of_lines}

-- some answer for each text
some_answer : (text : List ℕ) → ((steps : List Step) × IsLogOf text steps) ⊎ ((number : ℕ) × IsFirstBad text number)
some_answer text = elim (whole_or_bad AreLogLines tail front_of are_fronts text) [ inl b ↦ inl (b.0, log_of_lines text b.0 b.1 b.2) | inr bad ↦ inr bad ]

-- logs with the same lines are of one derivation
same_steps : (number : ℕ) (a b : List Step) (others : List (List ℕ)) → AreNumbered number a → AreNumbered number b → AllByRecursion IsWritable a → AllByRecursion IsWritable b
    → step_lines number a ++ tail ∷ others ≡ step_lines number b ++ tail ∷ [] → (a ≡ b) × (others ≡ [])
same_steps number [] [] others n m v w e = (refl, cons_tail _ _ _ _ e)
same_steps number (s ∷ a) [] others n m v w e = absurd (not_tail number s (omega arith) (cons_head _ _ _ _ e))
same_steps number [] (t ∷ b) others n m v w e = absurd (not_tail number t (omega arith) (sym (cons_head _ _ _ _ e)))
same_steps number (s ∷ a) (t ∷ b) others n m v w e =
    let one : s ≡ t = one_step number s t (record { positive = n.0; bounded = omega arith }) v.0 w.0 (cons_head _ _ _ _ e) in
    let rest = same_steps (number + 1) a b others (omega arith, omega arith) (omega arith, omega arith) v.1 w.1 (cons_tail _ _ _ _ e) in
    (rw (one, rest.0) refl, rest.1)

-- different logs differ, and no log begins another
pub logs_differ : LogsDiffer
logs_differ a b more wa wb e =
    let la : lines (log_text a ++ more) ≡ front_lines a ++ (tail ∷ lines more) = lines_of_log a more wa ∙ append_assoc (front_lines a) (tail ∷ []) (lines more) in
    let lb : lines (log_text b) ≡ log_lines b = lines_of_whole b (log_text b) (record { writable = wb; same = refl }) in
    let both : front_lines a ++ (tail ∷ lines more) ≡ log_lines b = sym la ∙ ap lines e ∙ lb in
    let s = same_steps 1 a b (lines more) (from_one a wa) (from_one b wb) wa.each wb.each (cons_tail _ _ _ _ both) in
    (s.0, no_lines more s.1)

-- each text is the log of one derivation, or has one first bad line
pub log_or_bad_line : (text : List ℕ) → LogOrBadLine text
log_or_bad_line text = record {
  some = some_answer text;
  one_log = λ a b ia ib. (logs_differ a b [] ia.writable ib.writable (append-nil (log_text a) ∙ sym ia.same ∙ ib.same)).0;
  one_line = one_line AreLogLines text;
  not_both = λ steps number is. not_both AreLogLines text number (steps, is.writable, sym (lines_of_whole steps text is));
}

-- what stands after the lines of these steps
pub next_line_is : (steps : List Step) (line : List ℕ) → AreWritable steps → NextLine steps line
next_line_is steps line w = record {
  only = λ b. elim (follows steps line b.0 w (subst AreLogLines (append_assoc (front_lines steps) (line ∷ []) b.0) b.1)).kind [ inl s ↦ inl s | inr t ↦ inr t.0 ];
  step = λ s is. let more = front_push steps line s w is in (tail ∷ [], (steps ++ s ∷ [], more.0, ap (λ (x : List (List ℕ)). x ++ tail ∷ []) more.1));
  last = λ e. ([], (steps, w, ap (λ (l : List ℕ). front_lines steps ++ l ∷ []) (sym e) ∙ sym (append-nil (front_lines steps ++ line ∷ []))));
}
