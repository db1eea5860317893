use Rattle.std.proofs.Common.{◌∙◌, option_copied}
use Rattle.abt_input.proofs.Files.{read_held}
use Rattle.abt_input.proofs.Keeping.{kept, came_unread, came_read, came_unordered, came_ordered, came_answer_with, came_stopped}
use Rattle.line_story.specs.StoryPromise.{story_plan}
use Rattle.line_story.proofs.Lawful.{story_sound}
use Rattle.line_story.proofs.Files.{held_as, held_order, holds_story, order_as, order_is}
use Rattle.line_story.proofs.story.run_story.Goals as goal

pub returns-in_err-problem-clause-came : goal.returns-in_err-problem-clause-came
returns-in_err-problem-clause-came g c =
    let l = c.args.line in let o = option_copied l.order_file in kept (story_plan o l.file.now) (story_sound l.model.now o l.schedule.now l.file.now) (came_unread _ c.from_residual.ensures c.in_err-problem.ensures)

pub returns-in_err-order-clause-came : goal.returns-in_err-order-clause-came
returns-in_err-order-clause-came g c =
    let l = c.args.line in
    let o = option_copied l.order_file in
    kept (story_plan o l.file.now) (story_sound l.model.now o l.schedule.now l.file.now) (came_read c.in_ok-problem.ensures (came_unordered _ _ _ c.from_residual-in_err-order.ensures c.in_err-order.ensures.read))

pub returns-in_err-choices-clause-came : goal.returns-in_err-choices-clause-came
returns-in_err-choices-clause-came g c =
    let l = c.args.line in
    let o = option_copied l.order_file in
    kept (story_plan o l.file.now) (story_sound l.model.now o l.schedule.now l.file.now)
    (came_read c.in_ok-problem.ensures (came_ordered _ _ c.in_ok-order.ensures.read (came_unread _ c.from_residual-in_err-choices.ensures c.in_err-choices.ensures)))

pub returns-in_err-status-clause-came : goal.returns-in_err-status-clause-came
returns-in_err-status-clause-came g c =
    let l = c.args.line in
    let o = option_copied l.order_file in
    let under = order_is c.as_ref-order.ensures.value c.in_ok-order.ensures.read in
    kept (story_plan o l.file.now) (story_sound l.model.now o l.schedule.now l.file.now)
    (came_read c.in_ok-problem.ensures (came_ordered _ _ under (came_read c.in_ok-choices.ensures (came_stopped _ c.from_residual-in_err-status.ensures c.in_err-status.ensures.wrote))))

pub returns-clause-came : goal.returns-clause-came
returns-clause-came g c =
    let l = c.args.line in
    let o = option_copied l.order_file in
    let under = order_is c.as_ref-order.ensures.value c.in_ok-order.ensures.read in
    kept (story_plan o l.file.now) (story_sound l.model.now o l.schedule.now l.file.now)
    (came_read c.in_ok-problem.ensures (came_ordered _ _ under (came_read c.in_ok-choices.ensures (came_answer_with _ c.in_ok-status.ensures.status c.in_ok-status.ensures.wrote))))

pub returns-clause-writes : goal.returns-clause-writes
returns-clause-writes g c =
    let l = c.args.line in
    let o = option_copied l.order_file in
    let under = order_is c.as_ref-order.ensures.value c.in_ok-order.ensures.read in
    let m = c.in_ok-problem.ensures in
    let d = held_order under in
    let r = c.in_ok-choices.ensures in
    let done = c.in_ok-status.ensures in
    holds_story l.model.now o l.schedule.now l.file.now c.in_ok-problem.problem (option_copied c.as_ref-order.result) c.in_ok-choices.choices done.csp done.small _ _ _ _ _ (r.held ∙ d.1 ∙ m.held) (read_held m) (order_as o c.in_ok-problem.problem _ m.held d.0)
    (held_as l.schedule.now c.in_ok-choices.choices (d.1 ∙ m.held) (read_held r)) done.wrote
