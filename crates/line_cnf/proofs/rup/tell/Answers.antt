use Rattle.std.proofs.Common.{◌∙◌}
use Rattle.line_cnf.proofs.rup.tell.Goals as goal

pub returns : goal.returns
returns g c = λ folder. rw (c.bytes.ensures ∙ c.rup_line-line.ensures) at (c.put.ensures folder)
