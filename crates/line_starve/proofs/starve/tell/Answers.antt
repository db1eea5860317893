use Rattle.std.proofs.Common.{◌∙◌}
use Rattle.line_starve.proofs.starve.tell.Goals as goal

pub returns : goal.returns
returns g c = λ folder. rw (c.bytes.ensures ∙ c.line_of-line.ensures) at (c.put.ensures folder)
