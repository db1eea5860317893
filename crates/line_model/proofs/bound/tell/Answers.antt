use Rattle.std.proofs.Common.{◌∙◌}
use Rattle.line_model.proofs.bound.tell.Goals as goal

pub returns : goal.returns
returns g c = λ folder. rw (c.bytes.ensures ∙ c.bound_line-line.ensures) at (c.put.ensures folder)
