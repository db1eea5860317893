use Rattle.law_runs.proofs.WorldFacts.{facts_hold}
use Rattle.law_runs.proofs.lossy.facts_hold.Goals as goal

pub returns : goal.returns
returns c = facts_hold
