use Rattle.law_subjects.proofs.Optima.{bounds_agree, best_agree}
use Rattle.law_subjects.proofs.meaning.optima_agree.Goals as goal

pub returns-clause-bounds : goal.returns-clause-bounds
returns-clause-bounds c = bounds_agree

pub returns-clause-best : goal.returns-clause-best
returns-clause-best c = best_agree
