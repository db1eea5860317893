use Rattle.law_inputs.proofs.KeptItems.{gaps_are_ignored}
use Rattle.law_inputs.proofs.gaps_are_ignored.Goals as goal

pub returns : goal.returns
returns c = gaps_are_ignored
