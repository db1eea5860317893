use Rattle.law_runs.proofs.Stopping.{stops}
use Rattle.law_runs.proofs.stops.Goals as goal

pub returns : goal.returns
returns c = stops
