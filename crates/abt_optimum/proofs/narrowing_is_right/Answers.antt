use Rattle.abt_optimum.proofs.Narrowing.{keeps_better, decides}
use Rattle.abt_optimum.proofs.narrowing_is_right.Goals as goal

pub returns-clause-keeps_better : goal.returns-clause-keeps_better
returns-clause-keeps_better c = keeps_better

pub returns-clause-decides : goal.returns-clause-decides
returns-clause-decides c = decides
