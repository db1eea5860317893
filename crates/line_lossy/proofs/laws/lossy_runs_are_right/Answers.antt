use Rattle.line_lossy.proofs.Meaning.{runs_are_right}
use Rattle.line_lossy.proofs.laws.lossy_runs_are_right.Goals as goal

pub returns : goal.returns
returns c = runs_are_right
