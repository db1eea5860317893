use Rattle.std.proofs.Common.{◌∙◌}
use Rattle.abt_schedule.specs.Answers.{generator_of, word_at}
use Rattle.dcsp_gen.specs.Problems.{colouring_text}
use Rattle.abt_input.proofs.Keeping.{kept, came_lacking}
use Rattle.line_model.specs.Generated.{print_plan}
use Rattle.line_model.proofs.Lawful.{print_sound}
use Rattle.line_model.proofs.generated.run_colouring.Goals as goal

pub returns : goal.returns
returns g c = λ folder. rw (c.deref.ensures.value ∙ c.in_ok-text.ensures) at (c.print.ensures folder)

pub returns-in_err-text : goal.returns-in_err-text
returns-in_err-text g c = λ folder. kept (print_plan (colouring_text c.args.n c.args.k (word_at (generator_of c.args.seed)))) (print_sound (colouring_text c.args.n c.args.k (word_at (generator_of c.args.seed)))) (came_lacking _ c.from_residual.ensures)
