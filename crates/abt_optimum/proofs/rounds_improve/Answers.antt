use Rattle.abt_optimum.proofs.Improving.{improving}
use Rattle.abt_optimum.proofs.rounds_improve.Goals as goal

pub returns : goal.returns
returns c = improving
