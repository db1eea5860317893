-- What an answer means once it is concluded.
use Rattle.std.proofs.Common.{Result}
use Rattle.dcsp_outside.specs.Outside.{Stream}
use Rattle.dcsp_script.specs.Scripts.{World}
use Rattle.dcsp_script.specs.declared.status.Status.{Status}
use Rattle.dcsp_script.specs.Statuses.{IsFinal, IsRefusal}
use Rattle.dcsp_script.specs.Runs.{Concludes}
use Rattle.abt_input.specs.Errors.{way_of}
use Rattle.abt_input.specs.declared.error.CommandError.{CommandError}
use Rattle.abt_command.specs.Lines.{CameMeans, Line, Means, value_of}
use Rattle.abt_command.proofs.Lines.{an_answer, if_answered}

-- a status that is final and no refusal is that of an answer, which means this
pub meant : (line : Line) (old new : World) (came : Result Status CommandError) (err now : Stream) (status : Status) → CameMeans (value_of line).meaning old new came → Concludes (way_of came) err now status
    → IsFinal status → (IsRefusal status → ⊥) → Means line old new status
meant line old new came err now status means concludes final answers = if_answered (value_of line).meaning old new came status (an_answer came err now status concludes final answers) means
