-- The entries of a derivation that has a log have a text of version 2.
use Rattle.std.proofs.Common.{◌≡◌, ℕ, ◌+◌, ◌≤◌, ◌^◌, eqb, List, [], ◌∷◌, ◌++◌, length, refl, ap, ◌∙◌, arith}
use Rattle.std.specs.List.{AllByRecursion}
use Rattle.dcsp_defs.specs.declared.Step.{Step}
use Rattle.dcsp_defs.specs.Words.{IsRising}
use Rattle.ngd_log.specs.declared.standing.Version.TheVariants.{Two}
use Rattle.ngd_log.specs.StepText.{IsStepNumber, IsWritable}
use Rattle.ngd_log.specs.Logs.{AreWritable}
use Rattle.ngd_log.specs.Entries.{steps_of}
use Rattle.ngd_log.specs.EntryTexts.{IsWritableEntry, HaveText}
use Rattle.ngd_log.proofs.Each.{each_append}
use Rattle.ngd_rewrite.specs.Upgrade.{end_of, numbers, ending, as_deletion, upgraded_from, upgraded}
use Rattle.ngd_rewrite.proofs.Numbers.{in_numbers, in_filter, numbers_rise, picked_rise, each_in}

-- the steps of the entries
steps_from : (steps : List Step) (k : ℕ) (others : List Step) → steps_of (upgraded_from steps k others) ≡ others
steps_from steps k [] = refl
steps_from steps k (s ∷ []) = refl
steps_from steps k (s ∷ t ∷ others) = ap (λ (xs : List Step). s ∷ xs) (no_step (ending steps k) ∙ steps_from steps (k + 1) (t ∷ others))
  where
    no_step : (ms : List ℕ) → steps_of (as_deletion ms ++ upgraded_from steps (k + 1) (t ∷ others)) ≡ steps_of (upgraded_from steps (k + 1) (t ∷ others))
    no_step [] = refl
    no_step (m ∷ ms) = refl

-- those that end at a step are steps
ending_steps : (steps : List Step) (k : ℕ) → length steps ≤ 2 ^ 62 → AllByRecursion IsStepNumber (ending steps k)
ending_steps steps k few = each_in IsStepNumber (ending steps k) (λ x i.
    let h = in_numbers (length steps) x (in_filter (λ n. eqb (end_of steps n) k) (numbers (length steps)) x i).0 in
    let most = h.1 in
    record { positive = h.0; bounded = omega (arith, most, few) })

-- a deletion of them can be written
written_deletion : (ns : List ℕ) → IsRising ns → AllByRecursion IsStepNumber ns → AllByRecursion (IsWritableEntry Two) (as_deletion ns)
written_deletion [] rising each = tt
written_deletion (n ∷ ns) rising each = (record { some = omega arith; rising = rising; each = each }, tt)

-- each entry can be written
written_from : (steps : List Step) (k : ℕ) (others : List Step) → length steps ≤ 2 ^ 62 → AllByRecursion IsWritable others → AllByRecursion (IsWritableEntry Two) (upgraded_from steps k others)
written_from steps k [] few h = tt
written_from steps k (s ∷ []) few h = (h.0, tt)
written_from steps k (s ∷ t ∷ others) few h = (
  h.0,
  each_append (IsWritableEntry Two) (as_deletion (ending steps k)) (upgraded_from steps (k + 1) (t ∷ others))
      (written_deletion (ending steps k) (picked_rise (λ n. eqb (end_of steps n) k) (numbers (length steps)) (numbers_rise (length steps))) (ending_steps steps k few))
      (written_from steps (k + 1) (t ∷ others) few h.1),
)

-- the entries have a text
pub have_text : (steps : List Step) → AreWritable steps → HaveText Two (upgraded steps)
have_text steps w =
    let few = w.count in
    let same = ap length (steps_from steps 1 steps) in
    record { count = omega (arith, few, same); each = written_from steps 1 steps few w.each }

-- a deletion of the steps that end at one of them can be written
pub ending_writable : (steps : List Step) (k : ℕ) → AreWritable steps → AllByRecursion (IsWritableEntry Two) (as_deletion (ending steps k))
ending_writable steps k w =
    written_deletion (ending steps k) (picked_rise (λ n. eqb (end_of steps n) k) (numbers (length steps)) (numbers_rise (length steps))) (ending_steps steps k w.count)
