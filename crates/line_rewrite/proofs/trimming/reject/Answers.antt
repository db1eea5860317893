use Rattle.std.proofs.Common.{◌∙◌}
use Rattle.line_rewrite.proofs.trimming.reject.Goals as goal

pub returns : goal.returns
returns g c = λ folder. rw (c.bytes.ensures ∙ c.finding_line-line.ensures) at (c.put.ensures folder)
