-- Each run of a line follows a report of its files.
use Rattle.std.proofs.Common.{◌≡◌, ◌⊎◌, ℕ, List, ◌++◌, Option, Some, None, inl, inr, subst}
use Rattle.std.specs.Prelude.{IfSome}
use Rattle.std.proofs.lemmas.List.{length-map}
use Rattle.dcsp_outside.specs.Outside.{Told, IsPrefixOf, bytes_of}
use Rattle.dcsp_script.specs.Scripts.{World, put_by}
use Rattle.dcsp_script.specs.declared.status.Status.{Status}
use Rattle.dcsp_script.specs.declared.status.Status.TheVariants.{Memory}
use Rattle.dcsp_script.specs.Promises.{Report, Promise, inputs_of}
use Rattle.dcsp_script.specs.Clauses.{HasCause, IsComplete, GainsText}
use Rattle.dcsp_script.proofs.Following.{ran_complete, ran_text}
use Rattle.abt_command.specs.Lines.{Line, promise_of}
use Rattle.abt_command.proofs.Lines.{lawful, one_line}
use Rattle.law_inputs.specs.Reports.{HasOneReport, FollowsReport, RunsFollowReports}

follows : (promise : Promise) → HasOneReport promise → (old new : World) (status : Status) → IsComplete promise old new status → GainsText promise old new → IfSome old.folder.held (λ files. FollowsReport promise files old new status)
follows promise has old new status complete text = by old.folder.held complete text
  where
    by : (held : Option (List ℕ → Option (List ℕ)))
        → IfSome held (λ files. (report : Report) → promise.Reports (inputs_of files promise.fetched) report → (HasCause promise old new → ⊥) → (status ≡ report.status) ⊎ (status ≡ Memory))
        → IfSome held (λ files. (report : Report) → promise.Reports (inputs_of files promise.fetched) report → Told old.out.written new.out.written (λ before now. (gained : List ℕ) × IsPrefixOf gained (put_by report.script) × (now ≡ before ++ gained)))
        → IfSome held (λ files. FollowsReport promise files old new status)
    by None c t = tt
    by (Some files) c t =
        let report = has.some (inputs_of files promise.fetched) (length-map promise.fetched (λ name. bytes_of (files name))) in
        record { report = report.0; reports = report.1; status_is = c report.0 report.1; text = t report.0 report.1 }

pub runs_follow : ((line : Line) → HasOneReport (promise_of line)) → RunsFollowReports
runs_follow has words old new err now status (inl run) line is =
    subst (λ (l : Line). IfSome old.folder.held (λ files. FollowsReport (promise_of l) files old new status)) (one_line words run.0 line run.1 is)
    (follows (promise_of run.0) (has run.0) old new status (ran_complete (promise_of run.0) (lawful run.0) old new err now status run.2) (ran_text (promise_of run.0) (lawful run.0) old new err now status run.2))
runs_follow has words old new err now status (inr none) line is = absurd (none.0 line is)
