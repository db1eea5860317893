use Rattle.law_runs.proofs.Starting.{starts_in_order}
use Rattle.law_runs.proofs.measures.starts_in_order.Goals as goal

pub returns : goal.returns
returns c = starts_in_order
