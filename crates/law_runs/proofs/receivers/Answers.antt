use Rattle.law_runs.proofs.Joins.{links_join}
use Rattle.law_runs.proofs.receivers.Goals as goal

pub returns : goal.returns
returns c = links_join
