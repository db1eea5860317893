use Rattle.law_runs.proofs.CalmEvents.{calm_budget}
use Rattle.law_runs.proofs.lossy.calm_budget.Goals as goal

pub returns : goal.returns
returns c = calm_budget
