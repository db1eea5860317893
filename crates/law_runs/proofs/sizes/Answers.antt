use Rattle.law_runs.proofs.SizeRuns.{sizes_hold}
use Rattle.law_runs.proofs.sizes.Goals as goal

pub returns : goal.returns
returns c = sizes_hold
