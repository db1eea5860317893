use Rattle.law_runs.proofs.Again.{replays}
use Rattle.law_runs.proofs.replays.Goals as goal

pub returns : goal.returns
returns c = replays
