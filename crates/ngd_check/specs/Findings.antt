-- What a check of a derivation, or of entries, finds.
use Rattle.std.specs.Prelude.{◌≡◌, ◌↔◌, ℕ, ◌+◌, ◌-◌, List, take, length, slice_get, Some}
use Rattle.dcsp_defs.specs.declared.Step.{Step}
use Rattle.dcsp_defs.specs.Csp.{Csp}
use Rattle.dcsp_defs.specs.Derivation.{step_at, IsRight, IsDerivation, EndsEmpty, IsRefutation}
use Rattle.dcsp_defs.specs.declared.entry.Entry.{Entry}
use Rattle.dcsp_defs.specs.declared.entry.Entry.TheVariants.{Step as A_step, Delete}
use Rattle.ngd_check.specs.declared.Finding.{Finding}
use Rattle.ngd_check.specs.declared.Finding.TheVariants.{Verified, BadStep, BadDeletion, NotEmpty}
use Rattle.ngd_check.specs.Entries.{steps_of, IsRightEntry, AreRight, DoRefute, entries_of}

-- the first wrong step: those before it are right, and it is not
pub record IsFirstWrong (p : Csp) (steps : List Step) (number : ℕ) : Type 0 where
  pub step : Step
  pub there : step_at steps number ≡ Some step
  pub right_before : IsDerivation p (take (number - 1) steps)
  pub wrong : ¬ IsRight p (take (number - 1) steps) step

-- each step is right, and there is none or the last nogood is not empty
pub record EndsElsewhere (p : Csp) (steps : List Step) : Type 0 where
  pub right : IsDerivation p steps
  pub not_empty : ¬ EndsEmpty steps

-- what is found of the derivation; it has no deletions
abbrev pub IsFinding : Csp → List Step → Finding → Type 0
IsFinding p steps Verified = IsRefutation p steps
IsFinding p steps (BadStep number) = IsFirstWrong p steps number
IsFinding p steps (BadDeletion after) = ⊥
IsFinding p steps NotEmpty = EndsElsewhere p steps

-- the first wrong entry: those before it are right, and it is not
pub record IsFirstWrongEntry (p : Csp) (entries : List Entry) (place : ℕ) (entry : Entry) : Type 0 where
  pub there : slice_get entries place ≡ Some entry
  pub right_before : AreRight p (take place entries)
  pub wrong : ¬ IsRightEntry p (take place entries) entry

-- the first wrong entry is the step with this number
pub record IsFirstWrongStep (p : Csp) (entries : List Entry) (number : ℕ) : Type 0 where
  pub place : ℕ
  pub step : Step
  pub first : IsFirstWrongEntry p entries place (A_step step)
  pub numbered : number ≡ length (steps_of (take place entries)) + 1

-- the first wrong entry is a deletion after so many steps
pub record IsFirstWrongDeletion (p : Csp) (entries : List Entry) (after : ℕ) : Type 0 where
  pub place : ℕ
  pub numbers : List ℕ
  pub first : IsFirstWrongEntry p entries place (Delete numbers)
  pub counted : after ≡ length (steps_of (take place entries))

-- each entry is right, and there is no step or the last nogood is not empty
pub record EndElsewhere (p : Csp) (entries : List Entry) : Type 0 where
  pub right : AreRight p entries
  pub not_empty : ¬ EndsEmpty (steps_of entries)

-- what is found of the entries
abbrev pub IsFindingOf : Csp → List Entry → Finding → Type 0
IsFindingOf p entries Verified = DoRefute p entries
IsFindingOf p entries (BadStep number) = IsFirstWrongStep p entries number
IsFindingOf p entries (BadDeletion after) = IsFirstWrongDeletion p entries after
IsFindingOf p entries NotEmpty = EndElsewhere p entries

-- What is found of steps is what is found of them as entries.
abbrev pub IsFoundAlike : Csp → List Step → Type 0
IsFoundAlike p steps = (f : Finding) → IsFinding p steps f ↔ IsFindingOf p (entries_of steps) f
