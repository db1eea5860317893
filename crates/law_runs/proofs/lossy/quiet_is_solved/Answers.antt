use Rattle.law_runs.proofs.WorldRuns.{quiet_is_solved}
use Rattle.law_runs.proofs.lossy.quiet_is_solved.Goals as goal

pub returns : goal.returns
returns c = quiet_is_solved
