-- Each line has one report, and its runs follow it.
use Rattle.std.specs.Prelude.{◌≡◌, ◌⊎◌, ℕ, List, ◌++◌, Option, IfSome}
use Rattle.dcsp_outside.specs.Outside.{Stream, Told, IsPrefixOf}
use Rattle.dcsp_script.specs.Scripts.{World, put_by}
use Rattle.dcsp_script.specs.Clauses.{HasCause}
use Rattle.dcsp_script.specs.declared.status.Status.{Status}
use Rattle.dcsp_script.specs.declared.status.Status.TheVariants.{Memory}
use Rattle.dcsp_script.specs.Promises.{Report, Promise, inputs_of}
use Rattle.abt_input.specs.Plans.{IsAnswered}
use Rattle.abt_command.specs.LinePromises.{EachPromise, HasRun}

-- there is a report of any bytes of the files, and only one
pub record HasOneReport (promise : Promise) : Type 0 where
  pub some : IsAnswered promise
  pub one : (inputs : List (List ℕ)) (a b : Report) → promise.Reports inputs a → promise.Reports inputs b → a ≡ b

-- these files have a report that the run follows
pub record FollowsReport (promise : Promise) (files : List ℕ → Option (List ℕ)) (old new : World) (status : Status) : Type 0 where
  pub report : Report
  pub reports : promise.Reports (inputs_of files promise.fetched) report
  -- where no count of the line rose, the status is that of the report, or memory was wanted
  pub status_is : (HasCause promise old new → ⊥) → (status ≡ report.status) ⊎ (status ≡ Memory)
  -- whatever came, `out` gained a first part of the text of the report
  pub text : Told old.out.written new.out.written (λ before now. (gained : List ℕ) × IsPrefixOf gained (put_by report.script) × (now ≡ before ++ gained))

-- Where the folder tells its files, each run of words that are a line follows a report.
abbrev pub RunsFollowReports : Type 0
RunsFollowReports =
    (words : List (List ℕ)) (old new : World) (err now : Stream) (status : Status) → HasRun words old new err now status → EachPromise words (λ promise. IfSome old.folder.held (λ files. FollowsReport promise files old new status))
