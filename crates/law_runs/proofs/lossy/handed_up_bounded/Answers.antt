use Rattle.law_runs.proofs.WorldRuns.{handed_up_bounded}
use Rattle.law_runs.proofs.lossy.handed_up_bounded.Goals as goal

pub returns : goal.returns
returns c = handed_up_bounded
