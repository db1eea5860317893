use Rattle.law_runs.proofs.WholeWorlds.{one_more_event}
use Rattle.law_runs.proofs.lossy.one_more_event.Goals as goal

pub returns : goal.returns
returns c = one_more_event
