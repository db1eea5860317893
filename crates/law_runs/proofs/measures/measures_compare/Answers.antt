use Rattle.law_runs.proofs.MeasureSums.{measures_compare}
use Rattle.law_runs.proofs.measures.measures_compare.Goals as goal

pub returns : goal.returns
returns c = measures_compare
