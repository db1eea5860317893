use Rattle.law_runs.proofs.WorldRuns.{hands_up_in_order}
use Rattle.law_runs.proofs.lossy.hands_up_in_order.Goals as goal

pub returns : goal.returns
returns c = hands_up_in_order
