use Rattle.law_runs.proofs.BoundRuns.{bounded}
use Rattle.law_runs.proofs.bounded.Goals as goal

pub returns : goal.returns
returns c = bounded
