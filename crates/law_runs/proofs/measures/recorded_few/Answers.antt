use Rattle.law_runs.proofs.Keeping.{recorded_few}
use Rattle.law_runs.proofs.measures.recorded_few.Goals as goal

pub returns : goal.returns
returns c = recorded_few
