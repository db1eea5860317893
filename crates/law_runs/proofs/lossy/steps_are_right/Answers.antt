use Rattle.law_runs.proofs.WorldRuns.{steps_are_right}
use Rattle.law_runs.proofs.lossy.steps_are_right.Goals as goal

pub returns : goal.returns
returns c = steps_are_right
