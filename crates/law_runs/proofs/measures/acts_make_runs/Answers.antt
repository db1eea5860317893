use Rattle.law_runs.proofs.ActsMaking.{acts_make_runs}
use Rattle.law_runs.proofs.measures.acts_make_runs.Goals as goal

pub returns : goal.returns
returns c = acts_make_runs
