use Rattle.law_subjects.proofs.ItemLimits.{numbers_are_small}
use Rattle.law_subjects.proofs.generated.numbers_are_small.Goals as goal

pub returns : goal.returns
returns c = numbers_are_small
