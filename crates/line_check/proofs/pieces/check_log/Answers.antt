use Rattle.std.proofs.Common.{Err, ap, subst, ◌∙◌}
use Rattle.dcsp_defs.specs.Csp.{HasNoSolution}
use Rattle.dcsp_rule.specs.Problems.{csp_of}
use Rattle.line_check.specs.Checks.{log_for}
use Rattle.line_check.proofs.Taking.{whole_come}
use Rattle.line_check.proofs.Found.{stopped_check}
use Rattle.line_check.proofs.pieces.check_log.Goals as goal

pub returns-in_err-check_pieces-clause-found : goal.returns-in_err-check_pieces-clause-found
returns-in_err-check_pieces-clause-found g c =
    let e = c.in_err-check_pieces.ensures in
    stopped_check (log_for c.args.problem.now) c.args.log.now (g.F.Folder.place c.args.folder.now) (g.F.Folder.place c.check_pieces.new.folder) _ _ c.from_residual.ensures e.leads e.held e.created e.counts (λ f. e.fault (ap Err f))

pub returns-clause-sound : goal.returns-clause-sound
returns-clause-sound g c = λ e.
    let whole = whole_come (g.F.Folder.place c.args.folder.now) (g.F.Folder.place c.check_pieces.new.folder) c.args.log.now c.check_pieces.new.check c.in_ok-check_pieces.field-0 c.in-End.is c.in_ok-check_pieces.ensures.leads in
    subst (λ p. HasNoSolution (csp_of p)) (c.in_ok-check_pieces.ensures.task.problem ∙ c.new-check.ensures.problem) (c.finding.ensures.sound whole.log whole.come e)
