-- What reading a log of version 1 gives.
use Rattle.std.specs.Prelude.{ℕ, List}
use Rattle.dcsp_defs.specs.declared.Step.{Step}
use Rattle.ngd_log.specs.Logs.{IsLogOf}
use Rattle.ngd_rewrite.specs.Endings.{AreEndings, steps_in}
use Rattle.abt_input.specs.Inputs.{IsTextOf}
use Rattle.abt_input.specs.Errors.{IsErrorOfLog}
use Rattle.abt_input.specs.Kinds.{FileKind}
use Rattle.line_rewrite.specs.declared.old_log.OldLog.{OldLog}

-- the steps of a log
abbrev pub steps_of : OldLog → List Step
steps_of log = steps_in log.text.items

-- the bytes are the log of the steps, and the endings are theirs
pub record IsOldLog (log : OldLog) : Type 0 where
  pub text : IsLogOf log.text.items (steps_of log)
  pub endings : AreEndings (steps_of log) log.endings

-- it is the log that these bytes are
pub record IsOldLogOf (bytes : List ℕ) (log : OldLog) : Type 0 where
  pub bytes_are : IsTextOf bytes (steps_of log)
  pub log_is : IsOldLog log

-- a log of version 1, which is kept with the endings of its steps
abbrev pub an_old_log : FileKind
an_old_log = record { Value = OldLog; Is = IsOldLogOf; Refuses = IsErrorOfLog }
