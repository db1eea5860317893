use Rattle.law_runs.proofs.WorldSizes.{calm_events}
use Rattle.law_runs.proofs.lossy.calm_events.Goals as goal

pub returns : goal.returns
returns c = calm_events
