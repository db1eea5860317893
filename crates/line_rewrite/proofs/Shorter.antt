-- The trimmed log is no longer than the log.
use Rattle.std.proofs.Common.{◌≡◌, ℕ, suc, ◌+◌, ◌/◌, ◌%◌, ◌<◌, ◌≤◌, ◌^◌, Bool, true, false, List, [], ◌∷◌, ◌++◌, length, length-append, map, codes, inl, inr, sym, ap, subst, ◌∙◌, arith}
use Rattle.std.specs.Prelude.{if◌then◌else◌, decimal}
use Rattle.std.specs.List.{AllByRecursion, concat}
use Rattle.std.proofs.lemmas.Fmt.{decimal_by_steps}
use Rattle.itoa.proofs.Decimal.{length_one, length_step_wide}
use Rattle.dcsp_defs.specs.declared.Reason.{Reason}
use Rattle.dcsp_defs.specs.declared.Reason.TheVariants.{Rule, Earlier}
use Rattle.dcsp_defs.specs.declared.Step.{Step}
use Rattle.dcsp_defs.specs.declared.entry.Entry.{Entry}
use Rattle.dcsp_defs.specs.declared.entry.Entry.TheVariants.{Step as A_step, Delete}
use Rattle.ngd_log.specs.declared.standing.Version.{Version}
use Rattle.ngd_log.specs.declared.standing.Version.TheVariants.{One, Two}
use Rattle.ngd_log.specs.StepText.{reason_text, reasons_text, variable_text, pairs_text, step_line, IsReasonInRange, IsWritable}
use Rattle.ngd_log.specs.Logs.{step_lines, log_text}
use Rattle.ngd_log.specs.Entries.{steps_of}
use Rattle.ngd_log.specs.EntryTexts.{deletion_line, entry_lines, entries_text}
use Rattle.ngd_check.proofs.Once.{compared}
use Rattle.ngd_rewrite.specs.Needed.{renumbered_reason, renumbered, chosen, count_to, IsTrimmed}
use Rattle.abt_input.specs.Inputs.{most_log}
use Rattle.line_check.specs.Checks.{HasEntries}
use Rattle.line_rewrite.proofs.Refuting.{count_within, each_step}

-- parts that are no longer make a whole that is no longer
both : (a b c d : List ℕ) → length a ≤ length b → length c ≤ length d → length (a ++ c) ≤ length (b ++ d)
both a b c d h k = omega (arith, h, k, length-append a c, length-append b d)

grow : (a b c : List ℕ) → length a ≤ length b → length (a ++ c) ≤ length (b ++ c)
grow a b c h = both a b c c h (omega arith)

-- a line with a number and reasons that are no longer
abbrev line_of : List ℕ → List ℕ → List ℕ → List ℕ → List ℕ
line_of number variable pairs reasons = number ++ codes " " ++ variable ++ codes " " ++ pairs ++ codes " <-" ++ reasons ++ codes "\n"

line_shorter : (m n v p r s : List ℕ) → length m ≤ length n → length r ≤ length s → length (line_of m v p r) ≤ length (line_of n v p s)
line_shorter m n v p r s h k =
    let named = grow (m ++ codes " " ++ v) (n ++ codes " " ++ v) (codes " ") (grow (m ++ codes " ") (n ++ codes " ") v (grow m n (codes " ") h)) in
    let arrow = grow (m ++ codes " " ++ v ++ codes " " ++ p) (n ++ codes " " ++ v ++ codes " " ++ p) (codes " <-") (grow (m ++ codes " " ++ v ++ codes " ") (n ++ codes " " ++ v ++ codes " ") p named) in
    grow (m ++ codes " " ++ v ++ codes " " ++ p ++ codes " <-" ++ r) (n ++ codes " " ++ v ++ codes " " ++ p ++ codes " <-" ++ s) (codes "\n") (both (m ++ codes " " ++ v ++ codes " " ++ p ++ codes " <-") (n ++ codes " " ++ v ++ codes " " ++ p ++ codes " <-") r s arrow k)

-- a lesser number has no more digits
one_digit : (m : ℕ) → m < 10 → (k : ℕ) → k ≤ m → k < 2 ^ 64 → length (decimal k) ≤ length ((48 + m) ∷ [])
one_digit m l k le small = omega (arith, length_one k (omega (arith, l, le)))

more_digits : (m : ℕ) (ds : List ℕ) → 10 ≤ m → ((k : ℕ) → k ≤ m / 10 → k < 2 ^ 64 → length (decimal k) ≤ length ds) → (k : ℕ) → k ≤ m → k < 2 ^ 64 → length (decimal k) ≤ length (ds ++ (48 + m % 10) ∷ [])
more_digits m ds l h k le small = elim (compared k 10) [
  | inl less ↦ omega (arith, length_one k less, length-append ds ((48 + m % 10) ∷ []))
  | inr r ↦
      let some : 10 ≤ k = elim r [ inl e ↦ omega (arith, e) | inr more ↦ omega (arith, more) ] in
      let front = h (k / 10) (omega (arith, le)) (omega (arith, small)) in
      omega (arith, front, length_step_wide k some (omega (arith, small)), length-append ds ((48 + m % 10) ∷ []))
]

fewer_digits : (n : ℕ) → n < 2 ^ 64 → (k : ℕ) → k ≤ n → k < 2 ^ 64 → length (decimal k) ≤ length (decimal n)
fewer_digits = decimal_by_steps (λ (m : ℕ) (ds : List ℕ). (k : ℕ) → k ≤ m → k < 2 ^ 64 → length (decimal k) ≤ length ds) one_digit more_digits

module _ (new : ℕ → ℕ) (bound : (n : ℕ) → new n ≤ n) where
  reason_shorter : (r : Reason) → IsReasonInRange r → length (codes " " ++ reason_text (renumbered_reason new r)) ≤ length (codes " " ++ reason_text r)
  reason_shorter (Rule r) h = omega arith
  reason_shorter (Earlier k) h =
      let b = h.bounded in
      let l = bound k in
      let fewer = fewer_digits k (omega (arith, b)) (new k) l (omega (arith, b, l)) in
      omega (arith, fewer, length-append (codes " ") (codes "n" ++ decimal (new k)), length-append (codes "n") (decimal (new k)), length-append (codes " ") (codes "n" ++ decimal k), length-append (codes "n") (decimal k))

  reasons_shorter : (rs : List Reason) → AllByRecursion IsReasonInRange rs → length (reasons_text (map (renumbered_reason new) rs)) ≤ length (reasons_text rs)
  reasons_shorter [] h = omega arith
  reasons_shorter (r ∷ rs) h =
      both (codes " " ++ reason_text (renumbered_reason new r)) (codes " " ++ reason_text r) (reasons_text (map (renumbered_reason new) rs)) (reasons_text rs) (reason_shorter r h.0) (reasons_shorter rs h.1)

  step_shorter : (m n : ℕ) (s : Step) → m ≤ n → n < 2 ^ 64 → IsWritable s → length (step_line m (renumbered new s)) ≤ length (step_line n s)
  step_shorter m n s l small w = line_shorter (decimal m) (decimal n) (variable_text s.variable) (pairs_text s.nogood) (reasons_text (map (renumbered_reason new) s.reasons)) (reasons_text s.reasons) (fewer_digits n small m l (omega (arith, small, l))) (reasons_shorter s.reasons w.in_range.reasons)

  steps_shorter : (test : ℕ → Bool) (m n : ℕ) (others : List Step) → m ≤ n → n + length others < 2 ^ 64 → AllByRecursion IsWritable others → length (concat (step_lines m (map (renumbered new) (chosen test n others)))) ≤ length (concat (step_lines n others))
  steps_shorter test m n [] l small w = omega arith
  steps_shorter test m n (s ∷ others) l small w = by_test (test n)
      (subst (λ (k : ℕ). length (concat (step_lines (m + 1) (map (renumbered new) (chosen test (suc n) others)))) ≤ length (concat (step_lines k others))) (sym next) (steps_shorter test (m + 1) (suc n) others (omega (arith, l)) (omega (arith, small)) w.1))
      (subst (λ (k : ℕ). length (concat (step_lines m (map (renumbered new) (chosen test (suc n) others)))) ≤ length (concat (step_lines k others))) (sym next) (steps_shorter test m (suc n) others (omega (arith, l)) (omega (arith, small)) w.1))
    where
      next : n + 1 ≡ suc n
      next = omega arith

      by_test : (b : Bool) → length (concat (step_lines (m + 1) (map (renumbered new) (chosen test (suc n) others)))) ≤ length (concat (step_lines (n + 1) others)) → length (concat (step_lines m (map (renumbered new) (chosen test (suc n) others)))) ≤ length (concat (step_lines (n + 1) others)) → length (concat (step_lines m (map (renumbered new) (if b then s ∷ chosen test (suc n) others else chosen test (suc n) others)))) ≤ length (concat (step_lines n (s ∷ others)))
      by_test true kept left =
          both (step_line m (renumbered new s)) (step_line n s) (concat (step_lines (m + 1) (map (renumbered new) (chosen test (suc n) others)))) (concat (step_lines (n + 1) others)) (step_shorter m n s l (omega (arith, small)) w.0) kept
      by_test false kept left = omega (arith, left, length-append (step_line n s) (concat (step_lines (n + 1) others)))

-- deletions only add
entries_longer : (n : ℕ) (entries : List Entry) → length (concat (step_lines n (steps_of entries))) ≤ length (concat (entry_lines n entries))
entries_longer n [] = omega arith
entries_longer n (A_step s ∷ entries) =
    both (step_line n s) (step_line n s) (concat (step_lines (n + 1) (steps_of entries))) (concat (entry_lines (n + 1) entries)) (omega arith) (entries_longer (n + 1) entries)
entries_longer n (Delete numbers ∷ entries) = let h = entries_longer n entries in omega (arith, h, length-append (deletion_line numbers) (concat (entry_lines n entries)))

text_length : (version : Version) (entries : List Entry) → length (entries_text version entries) ≡ length (concat (entry_lines 1 entries)) + 10
text_length One entries = omega (arith, length-append (concat (entry_lines 1 entries)) (codes "end\n"))
text_length Two entries = omega (arith, length-append (concat (entry_lines 1 entries)) (codes "end\n"))

log_length : (steps : List Step) → length (log_text steps) ≡ length (concat (step_lines 1 steps)) + 10
log_length steps = omega (arith, length-append (concat (step_lines 1 steps)) (codes "end\n"))

-- so the trimmed log is short
pub trimmed_short : (log : List ℕ) (entries : List Entry) (trimmed : List Step) → HasEntries log entries → IsTrimmed (steps_of entries) trimmed → length (log_text trimmed) ≤ most_log
trimmed_short log entries trimmed h is =
    let text = h.reads.1 in
    let count = text.writable.count in
    let less = steps_shorter (count_to is.needed) (count_within is.needed) is.needed 1 1 (steps_of entries) (omega arith) (omega (arith, count)) (each_step h.reads.0 entries text.writable.each) in
    let more = entries_longer 1 entries in
    let whole = ap length text.same ∙ text_length h.reads.0 entries in
    let part = log_length trimmed ∙ ap (λ (s : List Step). length (concat (step_lines 1 s)) + 10) is.same in
    let short = h.short in
    omega (arith, less, more, whole, part, short)
