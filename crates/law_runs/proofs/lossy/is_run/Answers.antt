use Rattle.law_runs.proofs.WorldRuns.{is_run}
use Rattle.law_runs.proofs.lossy.is_run.Goals as goal

pub returns : goal.returns
returns c = is_run
