use Rattle.law_inputs.proofs.SkippedItems.{predicates_are_ignored}
use Rattle.law_inputs.proofs.predicates_are_ignored.Goals as goal

pub returns : goal.returns
returns c = predicates_are_ignored
