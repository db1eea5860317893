use Rattle.law_runs.proofs.WholeWorlds.{is_whole}
use Rattle.law_runs.proofs.lossy.is_whole.Goals as goal

pub returns : goal.returns
returns c = is_whole
