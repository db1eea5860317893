use Rattle.std.proofs.Common.{◌∙◌, sym}
use Rattle.abt_session.specs.Traces.{progress_line, tells_progress}
use Rattle.dcsp_script.proofs.StepLines.{memory_told}
use Rattle.abt_session.proofs.Pieces.{line_put, put_where}
use Rattle.abt_session.proofs.lines.put_progress.Goals as goal

pub returns-in_err-push_progress : goal.returns-in_err-push_progress
returns-in_err-push_progress g c = λ folder. memory_told _ _ _ c.from_residual.ensures

pub returns : goal.returns
returns g c = λ folder.
    put_where (tells_progress c.args.telling c.args.deliveries) (progress_line c.args.telling.round c.args.deliveries c.args.steps) (sym c.tells_progress.ensures ∙ c.if-not-tells_progress.false)
    (line_put _ _ c.deref.ensures.value c.in_ok-push_progress.ensures c.clear.ensures.items (c.put.ensures folder))
