use Rattle.std.proofs.Common.{◌∙◌}
use Rattle.line_rewrite.proofs.trimming.tell.Goals as goal

pub returns : goal.returns
returns g c = λ folder. rw (c.deref.ensures.value ∙ c.in_ok-text.ensures) at (c.put.ensures folder)
