use Rattle.std.proofs.Common.{ap, sym, Ok, ◌∙◌}
use Rattle.abt_input.proofs.Files.{read_held}
use Rattle.abt_input.proofs.Keeping.{kept, came_unread, came_read, came_answer_with, came_stopped}
use Rattle.line_check.specs.Taking.{taking_of}
use Rattle.line_check.specs.CheckReports.{check_plan}
use Rattle.line_check.proofs.Taken.{settled}
use Rattle.line_check.proofs.Lawful.{check_sound}
use Rattle.line_check.proofs.Checks.{refuted, good_verified}
use Rattle.line_check.proofs.check.run_check.Goals as goal

pub returns-in_err-problem-clause-came : goal.returns-in_err-problem-clause-came
returns-in_err-problem-clause-came g c =
    let l = c.args.line in
    kept (check_plan (taking_of l.better)) (check_sound l.better l.model.now l.log.now) (came_unread _ c.from_residual.ensures c.in_err-problem.ensures)

pub returns-in_err-finding-clause-came : goal.returns-in_err-finding-clause-came
returns-in_err-finding-clause-came g c =
    let l = c.args.line in
    kept (check_plan (taking_of l.better)) (check_sound l.better l.model.now l.log.now)
    (came_read c.in_ok-problem.ensures (came_unread _ c.from_residual-in_err-finding.ensures c.in_err-finding.ensures.found))

pub returns-in_err-tell-clause-came : goal.returns-in_err-tell-clause-came
returns-in_err-tell-clause-came g c =
    let l = c.args.line in
    kept (check_plan (taking_of l.better)) (check_sound l.better l.model.now l.log.now)
    (came_read c.in_ok-problem.ensures (came_read c.in_ok-finding.ensures.found (came_stopped _ c.from_residual-in_err-tell.ensures (c.in_err-tell.ensures _))))

pub returns-clause-came : goal.returns-clause-came
returns-clause-came g c =
    let l = c.args.line in
    kept (check_plan (taking_of l.better)) (check_sound l.better l.model.now l.log.now)
    (came_read c.in_ok-problem.ensures (came_read c.in_ok-finding.ensures.found (came_answer_with _ c.finding_status.ensures (c.in_ok-tell.ensures _))))

pub returns-clause-verified : goal.returns-clause-verified
returns-clause-verified g c = λ e.
    let finding = good_verified c.in_ok-finding.finding (sym c.finding_status.ensures ∙ (let f = e in cc)) in
    refuted (taking_of c.args.line.better) (settled c.args.line.better).one (g.F.Folder.place c.args.outside.now.folder).held c.args.line.model.now c.in_ok-problem.problem (read_held c.in_ok-problem.ensures) (c.in_ok-finding.ensures.sound (ap Ok finding))
