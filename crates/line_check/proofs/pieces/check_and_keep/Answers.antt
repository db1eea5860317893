use Rattle.std.proofs.Common.{Err, Ok, sym, ap, subst, ◌∙◌, arith}
use Rattle.dcsp_rule.specs.Problems.{csp_of}
use Rattle.ngd_log.specs.EntryReading.{good_entries}
use Rattle.ngd_check.specs.Findings.{IsFindingOf}
use Rattle.abt_input.specs.Kinds.{ReadsAs}
use Rattle.line_check.specs.Checks.{log_for}
use Rattle.line_check.specs.LogChecks.{kept_log}
use Rattle.line_check.proofs.Taking.{whole_come}
use Rattle.line_check.proofs.Found.{stopped_check, found_kept}
use Rattle.line_check.proofs.pieces.check_and_keep.Goals as goal

pub returns-in_err-check_pieces : goal.returns-in_err-check_pieces
returns-in_err-check_pieces g c =
    let e = c.in_err-check_pieces.ensures in
    stopped_check (kept_log c.args.problem.now) c.args.log.now (g.F.Folder.place c.args.folder.now) (g.F.Folder.place c.check_pieces.new.folder) _ _ c.from_residual.ensures e.leads e.held e.created e.counts (λ f. e.fault (ap Err f))

pub returns-in-Ok : goal.returns-in-Ok
returns-in-Ok g c =
    let e = c.in_ok-check_pieces.ensures in
    let whole = whole_come (g.F.Folder.place c.args.folder.now) (g.F.Folder.place c.check_pieces.new.folder) c.args.log.now c.check_pieces.new.check c.in_ok-check_pieces.field-0 c.in-End.is e.leads in
    let short = whole.short in
    let problem = e.task.problem ∙ c.new-check.ensures.problem in
    record {
      read = (
        whole.log,
        whole.handed,
        found_kept c.args.problem.now whole.log c.in-Ok.finding c.into_steps.result
            (subst (λ p. ReadsAs (log_for p) whole.log (Ok c.in-Ok.finding)) problem (c.in-Ok.ensures.found whole.log whole.come (omega (arith, short))))
            (λ f. c.into_steps.ensures.kept (good_entries whole.log) c.in-Ok.finding whole.come.taken whole.come.kept (e.task.keeps ∙ c.new-check.ensures.keeps) (subst (λ p. IsFindingOf (csp_of p) (good_entries whole.log) c.in-Ok.finding) (sym problem) f)),
      );
      held = e.held;
      created = e.created;
      counts = e.counts;
      fault = λ f. absurd (let k = f in cc);
    }
