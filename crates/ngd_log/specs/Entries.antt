-- Entries as lists of steps, and what a deletion is.
use Rattle.std.specs.Prelude.{ℕ, ◌<◌, List, [], ◌∷◌, length, map}
use Rattle.std.specs.List.{AllByRecursion}
use Rattle.dcsp_defs.specs.declared.Step.{Step}
use Rattle.dcsp_defs.specs.Words.{IsRising}
use Rattle.dcsp_defs.specs.declared.entry.Entry.{Entry}
use Rattle.dcsp_defs.specs.declared.entry.Entry.TheVariants.{Step as A_step, Delete}
use Rattle.ngd_log.specs.StepText.{IsStepNumber}

-- the steps among the entries, in order
abbrev pub steps_of : List Entry → List Step
steps_of [] = []
steps_of (A_step step ∷ entries) = step ∷ steps_of entries
steps_of (Delete numbers ∷ entries) = steps_of entries

-- the steps as entries
abbrev pub entries_of : List Step → List Entry
entries_of steps = map A_step steps

-- a deletion: some numbers of steps, which rise strictly
pub record IsDeletion (numbers : List ℕ) : Type 0 where
  pub some : 0 < length numbers
  pub rising : IsRising numbers
  pub each : AllByRecursion IsStepNumber numbers
