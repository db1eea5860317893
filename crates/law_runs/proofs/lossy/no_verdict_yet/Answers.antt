use Rattle.law_runs.proofs.WorldSizes.{no_verdict_yet}
use Rattle.law_runs.proofs.lossy.no_verdict_yet.Goals as goal

pub returns : goal.returns
returns c = no_verdict_yet
