use Rattle.std.specs.Prelude.{option_copied}
use Rattle.abt_input.proofs.Files.{read_held}
use Rattle.abt_input.proofs.Keeping.{kept, came_unread, came_read, came_unordered, came_ordered, came_answer_with, came_stopped}
use Rattle.line_replay.proofs.HeldProblems.{holds_problem}
use Rattle.line_lossy.specs.LossyPromise.{lossy_plan, ordered_plan}
use Rattle.line_lossy.proofs.HeldRuns.{held_order, holds_run, order_as, order_is}
use Rattle.line_lossy.proofs.Lawful.{lossy_sound}
use Rattle.line_lossy.proofs.line.run_lossy.Goals as goal

pub returns-in_err-problem-clause-came : goal.returns-in_err-problem-clause-came
returns-in_err-problem-clause-came g c =
    let l = c.args.line in
    let o = option_copied l.order_file in
    let k = option_copied l.record_file in
    let plan = lossy_plan l.log.now l.events l.seed k o in
    let sound = lossy_sound l.model.now o l.log.now l.events l.seed k in
    kept plan sound (came_unread _ c.from_residual.ensures c.in_err-problem.ensures)

pub returns-in_err-order-clause-came : goal.returns-in_err-order-clause-came
returns-in_err-order-clause-came g c =
    let l = c.args.line in
    let o = option_copied l.order_file in
    let k = option_copied l.record_file in
    let plan = lossy_plan l.log.now l.events l.seed k o in
    let sound = lossy_sound l.model.now o l.log.now l.events l.seed k in
    let next = ordered_plan l.log.now l.events l.seed k c.in_ok-problem.problem in
    kept plan sound (came_read c.in_ok-problem.ensures (came_unordered next _ _ c.from_residual-in_err-order.ensures c.in_err-order.ensures.read))

pub returns-in_err-status-clause-came : goal.returns-in_err-status-clause-came
returns-in_err-status-clause-came g c =
    let l = c.args.line in
    let o = option_copied l.order_file in
    let k = option_copied l.record_file in
    let plan = lossy_plan l.log.now l.events l.seed k o in
    let sound = lossy_sound l.model.now o l.log.now l.events l.seed k in
    let next = ordered_plan l.log.now l.events l.seed k c.in_ok-problem.problem in
    let under = order_is c.as_ref.ensures.value c.in_ok-order.ensures.read in
    kept plan sound (came_read c.in_ok-problem.ensures (came_ordered next _ under (came_stopped _ c.from_residual-in_err-status.ensures c.in_err-status.ensures.wrote)))

pub returns-clause-came : goal.returns-clause-came
returns-clause-came g c =
    let l = c.args.line in
    let o = option_copied l.order_file in
    let k = option_copied l.record_file in
    let plan = lossy_plan l.log.now l.events l.seed k o in
    let sound = lossy_sound l.model.now o l.log.now l.events l.seed k in
    let next = ordered_plan l.log.now l.events l.seed k c.in_ok-problem.problem in
    let under = order_is c.as_ref.ensures.value c.in_ok-order.ensures.read in
    kept plan sound (came_read c.in_ok-problem.ensures (came_ordered next _ under (came_answer_with _ c.in_ok-status.ensures.status c.in_ok-status.ensures.wrote)))

pub returns-clause-sound : goal.returns-clause-sound
returns-clause-sound g c = holds_problem (g.F.Folder.place c.args.outside.now.folder).held c.args.line.model.now c.in_ok-problem.problem (read_held c.in_ok-problem.ensures) c.denotes_csp.ensures.csp c.problems_are_small.ensures

pub returns-clause-run : goal.returns-clause-run
returns-clause-run g c =
    let l = c.args.line in
    let p = c.in_ok-problem.problem in
    let under = order_is c.as_ref.ensures.value c.in_ok-order.ensures.read in
    holds_run (g.F.Folder.place c.args.outside.now.folder).held l.model.now (option_copied l.order_file) l.events l.seed l.log.now _ p (option_copied c.as_ref.result) (read_held c.in_ok-problem.ensures) (order_as _ p _ c.in_ok-problem.ensures.held (held_order under)) c.denotes_csp.ensures.problem
    c.lossy_runs_are_right.ensures c.in_ok-status.status c.in_ok-status.ensures.status
