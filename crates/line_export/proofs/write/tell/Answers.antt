use Rattle.std.proofs.Common.{◌∙◌}
use Rattle.line_export.proofs.write.tell.Goals as goal

pub returns : goal.returns
returns g c = λ folder. rw (c.deref.ensures.value ∙ c.in_ok-text.ensures) at (c.put.ensures folder)
