use Rattle.law_subjects.proofs.Learning.{learned_few}
use Rattle.law_subjects.proofs.learned_few.Goals as goal

pub returns : goal.returns
returns c = learned_few
