use Rattle.std.proofs.Common.{◌∙◌}
use Rattle.line_rewrite.proofs.upgrade.tell.Goals as goal

pub returns : goal.returns
returns g c = λ folder. rw (c.bytes.ensures ∙ c.counts_line-line.ensures) at (c.put.ensures folder)
