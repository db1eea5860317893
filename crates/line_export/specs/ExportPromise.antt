-- What `export MODEL LOG CNF PROOF [--atoms] [--better N]` promises.
use Rattle.std.specs.Prelude.{◌≡◌, ℕ, Bool, List, [], ◌∷◌, Some, None}
use Rattle.dcsp_defs.specs.declared.Step.{Step}
use Rattle.dcsp_rule.specs.Problems.{Contents}
use Rattle.dcsp_common.specs.declared.limits.Which.{Which}
use Rattle.ngd_check.specs.declared.Finding.{Finding}
use Rattle.ngd_check.specs.declared.Finding.TheVariants.{Verified, BadStep, BadDeletion, NotEmpty}
use Rattle.dcsp_script.specs.declared.status.Status.TheVariants.{Good}
use Rattle.dcsp_script.specs.Promises.{Promise}
use Rattle.abt_input.specs.declared.error.CommandError.{CommandError}
use Rattle.abt_input.specs.declared.error.CommandError.TheVariants.{Clauses}
use Rattle.abt_input.specs.declared.clauses_error.ClausesError.TheVariants.{CnfLimit}
use Rattle.abt_input.specs.Kinds.{FileKind}
use Rattle.abt_input.specs.Plans.{Plan, Answer, Read, promise_by}
use Rattle.line_check.specs.declared.log_check.Checked.{Checked}
use Rattle.line_check.specs.Taking.{Taking, model_by}
use Rattle.line_check.specs.Checks.{IsErrorOfEntries}
use Rattle.line_check.specs.LogChecks.{IsKeptFor}
use Rattle.line_check.specs.CheckReports.{finding_plan}
use Rattle.line_export.specs.Clauses.{formula}
use Rattle.line_export.specs.Texts.{export_script}
use Rattle.line_export.specs.Limits.{limit_past}

-- what is found of the log, with its steps; where they refute, their formula is within the limits
pub record IsWithin (problem : Contents) (log : List ℕ) (checked : Checked) : Type 0 where
  pub kept : IsKeptFor problem log checked
  pub within : checked.finding ≡ Verified → limit_past problem (formula problem checked.steps) ≡ None

-- the steps of the log refute, and their formula passes this limit first
pub record Passes (problem : Contents) (log : List ℕ) (which : Which) (count : ℕ) : Type 0 where
  pub checked : Checked
  pub kept : IsKeptFor problem log checked
  pub verified : checked.finding ≡ Verified
  pub past : limit_past problem (formula problem checked.steps) ≡ Some (which, count)

-- this error is why the log is refused
abbrev pub IsErrorOfExport : Contents → List ℕ → CommandError → Type 0
IsErrorOfExport problem log (Clauses (CnfLimit which count)) = Passes problem log which count
IsErrorOfExport problem log error = IsErrorOfEntries log error

-- a log of either version, whose steps are kept, and of which a formula can be written if they refute
abbrev pub a_refutation : Contents → FileKind
a_refutation problem = record { Value = Checked; Is = IsWithin problem; Refuses = IsErrorOfExport problem }

-- of a log that refutes the problem formula and proof are written; of another one it is told what it is found to be
abbrev pub writing_plan : List ℕ → List ℕ → Bool → Contents → List Step → Finding → Plan
writing_plan cnf proof wanted problem steps Verified = Answer Good (export_script cnf proof wanted problem steps)
writing_plan cnf proof wanted problem steps (BadStep step) = finding_plan (BadStep step)
writing_plan cnf proof wanted problem steps (BadDeletion after) = finding_plan (BadDeletion after)
writing_plan cnf proof wanted problem steps NotEmpty = finding_plan NotEmpty

-- the model is read, and then the log, as `check` reads them
abbrev pub export_plan : Taking → List ℕ → List ℕ → Bool → Plan
export_plan t cnf proof wanted = Read (model_by t) (λ problem. Read (a_refutation problem) (λ checked. writing_plan cnf proof wanted problem checked.steps checked.finding))

-- the line's promise
abbrev pub export_promise : Taking → List ℕ → List ℕ → List ℕ → List ℕ → Bool → Promise
export_promise t model log cnf proof wanted = promise_by (model ∷ log ∷ []) (cnf ∷ proof ∷ []) (export_plan t cnf proof wanted)
