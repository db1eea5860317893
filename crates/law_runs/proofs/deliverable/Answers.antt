use Rattle.law_runs.proofs.Takes.{all_deliverable}
use Rattle.law_runs.proofs.deliverable.Goals as goal

pub returns : goal.returns
returns c = all_deliverable
