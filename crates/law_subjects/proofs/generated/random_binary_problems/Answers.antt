use Rattle.law_subjects.proofs.RandomBinary.{binary_is_random}
use Rattle.law_subjects.proofs.generated.random_binary_problems.Goals as goal

pub returns : goal.returns
returns c = binary_is_random
