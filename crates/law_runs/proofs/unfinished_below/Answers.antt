use Rattle.law_runs.proofs.Below.{unfinished_below}
use Rattle.law_runs.proofs.unfinished_below.Goals as goal

pub returns : goal.returns
returns c = unfinished_below
