use Rattle.law_runs.proofs.ActHistories.{clocks_are_weights}
use Rattle.law_runs.proofs.measures.clocks_are_weights.Goals as goal

pub returns : goal.returns
returns c = clocks_are_weights
