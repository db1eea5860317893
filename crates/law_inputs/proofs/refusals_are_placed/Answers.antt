use Rattle.law_inputs.proofs.RefusalPlaces.{refusals_are_placed}
use Rattle.law_inputs.proofs.refusals_are_placed.Goals as goal

pub returns : goal.returns
returns c = refusals_are_placed
