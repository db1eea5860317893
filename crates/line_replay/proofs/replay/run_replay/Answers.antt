use Rattle.std.proofs.Common.{◌≡◌, option_copied, rules}
use Rattle.abt_input.proofs.Files.{read_held}
use Rattle.abt_input.proofs.Keeping.{kept, came_unread, came_read, came_unordered, came_ordered, came_answer_with, came_stopped}
use Rattle.line_replay.specs.ReplayPromise.{choices_plan, replay_plan}
use Rattle.line_replay.proofs.HeldProblems.{holds_problem}
use Rattle.line_replay.proofs.Lawful.{replay_sound}
use Rattle.line_replay.proofs.replay.run_replay.Goals as goal

pub returns-in_err-problem-clause-came : goal.returns-in_err-problem-clause-came
returns-in_err-problem-clause-came g c =
    let l = c.args.line in
    let o = option_copied l.order_file in
    kept (replay_plan l.log.now l.trace o) (replay_sound l.model.now l.schedule.now l.log.now l.trace o) (came_unread _ c.from_residual.ensures c.in_err-problem.ensures)

pub returns-in_err-order-clause-came : goal.returns-in_err-order-clause-came
returns-in_err-order-clause-came g c =
    let l = c.args.line in
    let o = option_copied l.order_file in
    kept (replay_plan l.log.now l.trace o) (replay_sound l.model.now l.schedule.now l.log.now l.trace o)
    (came_read c.in_ok-problem.ensures (came_unordered (choices_plan l.log.now l.trace c.in_ok-problem.problem) _ _ c.from_residual-in_err-order.ensures c.in_err-order.ensures.read))

pub returns-in_err-choices-clause-came : goal.returns-in_err-choices-clause-came
returns-in_err-choices-clause-came g c =
    let l = c.args.line in
    let o = option_copied l.order_file in
    kept (replay_plan l.log.now l.trace o) (replay_sound l.model.now l.schedule.now l.log.now l.trace o)
    (came_read c.in_ok-problem.ensures (came_ordered (choices_plan l.log.now l.trace c.in_ok-problem.problem) _ c.in_ok-order.ensures.read (came_unread _ c.from_residual-in_err-choices.ensures c.in_err-choices.ensures)))

pub returns-in_err-status-clause-came : goal.returns-in_err-status-clause-came
returns-in_err-status-clause-came g c =
    let l = c.args.line in
    let o = option_copied l.order_file in
    let same : option_copied c.as_ref.result ≡ c.in_ok-order.order = search rules in
    kept (replay_plan l.log.now l.trace o) (replay_sound l.model.now l.schedule.now l.log.now l.trace o)
    (came_read c.in_ok-problem.ensures (came_ordered (choices_plan l.log.now l.trace c.in_ok-problem.problem) _ c.in_ok-order.ensures.read
    (came_read c.in_ok-choices.ensures (came_stopped _ c.from_residual-in_err-status.ensures (rw same at c.in_err-status.ensures.wrote)))))

pub returns-clause-came : goal.returns-clause-came
returns-clause-came g c =
    let l = c.args.line in
    let o = option_copied l.order_file in
    let same : option_copied c.as_ref.result ≡ c.in_ok-order.order = search rules in
    kept (replay_plan l.log.now l.trace o) (replay_sound l.model.now l.schedule.now l.log.now l.trace o)
    (came_read c.in_ok-problem.ensures (came_ordered (choices_plan l.log.now l.trace c.in_ok-problem.problem) _ c.in_ok-order.ensures.read
    (came_read c.in_ok-choices.ensures (came_answer_with _ (rw same at c.in_ok-status.ensures.status) (rw same at c.in_ok-status.ensures.wrote)))))

pub returns-clause-sound : goal.returns-clause-sound
returns-clause-sound g c = holds_problem (g.F.Folder.place c.args.outside.now.folder).held c.args.line.model.now c.in_ok-problem.problem (read_held c.in_ok-problem.ensures) c.denotes_csp.ensures.csp c.problems_are_small.ensures
