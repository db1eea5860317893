use Rattle.law_subjects.proofs.MeantWhole.{solutions_satisfy}
use Rattle.law_subjects.proofs.meaning.solutions_satisfy.Goals as goal

pub returns : goal.returns
returns c = solutions_satisfy
