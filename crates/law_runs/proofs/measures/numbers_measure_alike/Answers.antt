use Rattle.law_runs.proofs.Keeping.{numbers_measure_alike}
use Rattle.law_runs.proofs.measures.numbers_measure_alike.Goals as goal

pub returns : goal.returns
returns c = numbers_measure_alike
