use Rattle.std.proofs.Common.{Err, refl, ◌∙◌}
use Rattle.abt_input.specs.declared.error.CommandError.TheVariants.{Memory}
use Rattle.abt_input.proofs.Files.{read_held}
use Rattle.abt_input.proofs.Keeping.{kept, came_unread, came_read, came_found, came_lacking, came_answer, came_stopped}
use Rattle.line_model.specs.OrderPromise.{order_plan}
use Rattle.line_model.proofs.Lawful.{order_sound}
use Rattle.line_model.proofs.Ordered.{order_told, holds_order}
use Rattle.line_model.proofs.order.run_order.Goals as goal

pub returns-in_err-problem-clause-came : goal.returns-in_err-problem-clause-came
returns-in_err-problem-clause-came g c =
    let l = c.args.line in
    kept (order_plan l.rule l.file.now) (order_sound l.model.now l.rule l.file.now) (came_unread _ c.from_residual.ensures c.in_err-problem.ensures)

pub returns-in_default-clause-came : goal.returns-in_default-clause-came
returns-in_default-clause-came g c =
    let l = c.args.line in
    kept (order_plan l.rule l.file.now) (order_sound l.model.now l.rule l.file.now) (came_read c.in_ok-problem.ensures (came_lacking (Err Memory) (refl, refl)))

pub returns-in_default-text-clause-came : goal.returns-in_default-text-clause-came
returns-in_default-text-clause-came g c =
    let l = c.args.line in
    kept (order_plan l.rule l.file.now) (order_sound l.model.now l.rule l.file.now) (came_read c.in_ok-problem.ensures (came_lacking (Err Memory) (refl, refl)))

pub returns-in_err-write_told-clause-came : goal.returns-in_err-write_told-clause-came
returns-in_err-write_told-clause-came g c =
    let l = c.args.line in
    let wrote = order_told l.file.now l.rule c.in-Ok.order c.deref.result.now c.bytes.result.now c.numbers.result.now (c.deref.ensures.value ∙ c.in-Ok-text.ensures) (c.bytes.ensures ∙ c.order_line-told.ensures) c.numbers.ensures.numbers c.in_err-write_told.ensures in
    kept (order_plan l.rule l.file.now) (order_sound l.model.now l.rule l.file.now)
    (came_read c.in_ok-problem.ensures (came_found c.in-Ok.order c.in-Ok.ensures (came_stopped _ c.from_residual-in_err-write_told.ensures wrote)))

pub returns-clause-came : goal.returns-clause-came
returns-clause-came g c =
    let l = c.args.line in
    let wrote = order_told l.file.now l.rule c.in-Ok.order c.deref.result.now c.bytes.result.now c.numbers.result.now (c.deref.ensures.value ∙ c.in-Ok-text.ensures) (c.bytes.ensures ∙ c.order_line-told.ensures) c.numbers.ensures.numbers c.in_ok-write_told.ensures in
    kept (order_plan l.rule l.file.now) (order_sound l.model.now l.rule l.file.now)
    (came_read c.in_ok-problem.ensures (came_found c.in-Ok.order c.in-Ok.ensures (came_answer wrote)))

pub returns-clause-writes : goal.returns-clause-writes
returns-clause-writes g c =
    let l = c.args.line in
    let e = c.in_ok-problem.ensures in
    let wrote = order_told l.file.now l.rule c.in-Ok.order c.deref.result.now c.bytes.result.now c.numbers.result.now (c.deref.ensures.value ∙ c.in-Ok-text.ensures) (c.bytes.ensures ∙ c.order_line-told.ensures) c.numbers.ensures.numbers c.in_ok-write_told.ensures in
    holds_order l.model.now l.rule l.file.now c.in_ok-problem.problem c.in-Ok.order c.in-Ok.ensures _ _ _ _ _ e.held (read_held e) wrote
