use Rattle.law_runs.proofs.Stall.{no_stall}
use Rattle.law_runs.proofs.no_stall.Goals as goal

pub returns : goal.returns
returns c = no_stall
