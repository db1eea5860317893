use Rattle.line_solve.proofs.Halves.{changes_nothing}
use Rattle.line_solve.proofs.halves_change_nothing.Goals as goal

pub returns : goal.returns
returns c = changes_nothing
