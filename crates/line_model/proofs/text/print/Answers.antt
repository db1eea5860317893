use Rattle.abt_input.proofs.Keeping.{kept, came_answer, came_stopped}
use Rattle.line_model.specs.Generated.{print_plan}
use Rattle.line_model.proofs.Lawful.{print_sound}
use Rattle.line_model.proofs.text.print.Goals as goal

pub returns-in_err-put : goal.returns-in_err-put
returns-in_err-put g c = λ folder. kept (print_plan c.args.text.now) (print_sound c.args.text.now) (came_stopped _ c.from_residual.ensures (c.in_err-put.ensures folder))

pub returns : goal.returns
returns g c = λ folder. kept (print_plan c.args.text.now) (print_sound c.args.text.now) (came_answer (c.in_ok-put.ensures folder))
