use Rattle.law_inputs.proofs.LeftOut.{ignored_can_be_left_out}
use Rattle.law_inputs.proofs.ignored_can_be_left_out.Goals as goal

pub returns : goal.returns
returns c = ignored_can_be_left_out
