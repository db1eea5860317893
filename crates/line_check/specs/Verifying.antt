-- A log that checking verifies.
use Rattle.std.specs.Prelude.{◌≡◌, ℕ, List, Option, Some}
use Rattle.dcsp_outside.specs.Outside.{Stream}
use Rattle.dcsp_script.specs.Scripts.{World}
use Rattle.dcsp_script.specs.declared.status.Status.{Status}
use Rattle.dcsp_script.specs.declared.status.Status.TheVariants.{Good, No, Words, Model, Input, Unfinished, Fault, Memory}
use Rattle.dcsp_script.specs.Runs.{Ran}
use Rattle.line_check.specs.Taking.{Taking, plain}
use Rattle.line_check.specs.CheckReports.{check_promise}

-- the status of a check that verified the log, or that was stopped
abbrev pub VerifiesUnlessStopped : Status → Type 0
VerifiesUnlessStopped Good = Unit {0}
VerifiesUnlessStopped No = ⊥
VerifiesUnlessStopped Words = ⊥
VerifiesUnlessStopped Model = ⊥
VerifiesUnlessStopped Input = ⊥
VerifiesUnlessStopped Unfinished = ⊥
VerifiesUnlessStopped Fault = Unit {0}
VerifiesUnlessStopped Memory = Unit {0}

-- whatever such a check of the log against the model leaves, over a folder that holds these files, it verified the log or was stopped
abbrev pub IsVerifiedBy : Taking → (List ℕ → Option (List ℕ)) → List ℕ → List ℕ → Type 0
IsVerifiedBy t files model log = (old new : World) (err now : Stream) (status : Status) → old.folder.held ≡ Some files → Ran (check_promise t model log) old new err now status → VerifiesUnlessStopped status

-- the same of a check of the model's own problem
abbrev pub IsVerified : (List ℕ → Option (List ℕ)) → List ℕ → List ℕ → Type 0
IsVerified files model log = IsVerifiedBy plain files model log
