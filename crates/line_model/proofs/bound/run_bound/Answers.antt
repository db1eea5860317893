use Rattle.std.proofs.Common.{[], Err, option_copied, refl}
use Rattle.abt_input.specs.declared.error.CommandError.TheVariants.{Memory}
use Rattle.abt_input.proofs.Keeping.{kept, came_unread, came_read, came_unordered, came_ordered, came_answer, came_lacking, came_stopped}
use Rattle.line_model.specs.BoundReports.{bound_plan, bound_under}
use Rattle.line_model.proofs.Lawful.{bound_sound}
use Rattle.line_model.proofs.bound.run_bound.Goals as goal

pub returns-in_err-problem : goal.returns-in_err-problem
returns-in_err-problem g c =
    kept (bound_plan (option_copied c.args.line.order_file)) (bound_sound c.args.line.model.now (option_copied c.args.line.order_file)) (came_unread _ c.from_residual.ensures c.in_err-problem.ensures)

pub returns-in_err-order : goal.returns-in_err-order
returns-in_err-order g c =
    kept (bound_plan (option_copied c.args.line.order_file)) (bound_sound c.args.line.model.now (option_copied c.args.line.order_file)) (came_read c.in_ok-problem.ensures (came_unordered (bound_under c.in_ok-problem.problem) [] _ c.from_residual-in_err-order.ensures c.in_err-order.ensures.read))

pub returns-in_default : goal.returns-in_default
returns-in_default g c =
    kept (bound_plan (option_copied c.args.line.order_file)) (bound_sound c.args.line.model.now (option_copied c.args.line.order_file)) (came_read c.in_ok-problem.ensures (came_ordered (bound_under c.in_ok-problem.problem) [] c.in_ok-order.ensures.read (came_lacking (Err Memory) (refl, refl))))

pub returns-in_err-tell : goal.returns-in_err-tell
returns-in_err-tell g c =
    let told = c.in_err-tell.ensures (g.F.Folder.place c.read_order_of.new.folder) in
    kept (bound_plan (option_copied c.args.line.order_file)) (bound_sound c.args.line.model.now (option_copied c.args.line.order_file))
    (came_read c.in_ok-problem.ensures (came_ordered (bound_under c.in_ok-problem.problem) [] c.in_ok-order.ensures.read (came_stopped _ c.from_residual-in_err-tell.ensures (rw (c.in-Ok.ensures, c.as_ref.ensures.value) at told))))

pub returns : goal.returns
returns g c =
    let told = c.in_ok-tell.ensures (g.F.Folder.place c.read_order_of.new.folder) in
    kept (bound_plan (option_copied c.args.line.order_file)) (bound_sound c.args.line.model.now (option_copied c.args.line.order_file)) (came_read c.in_ok-problem.ensures (came_ordered (bound_under c.in_ok-problem.problem) [] c.in_ok-order.ensures.read (came_answer (rw (c.in-Ok.ensures, c.as_ref.ensures.value) at told))))
