use Rattle.abt_optimum.proofs.Improving.{one_value}
use Rattle.abt_optimum.proofs.best_is_one_value.Goals as goal

pub returns : goal.returns
returns c = one_value
