use Rattle.law_runs.proofs.Whole.{verdicts}
use Rattle.law_runs.proofs.verdicts.Goals as goal

pub returns : goal.returns
returns c = verdicts
