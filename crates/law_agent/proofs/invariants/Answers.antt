use Rattle.law_agent.proofs.All.{invariants_hold}
use Rattle.law_agent.proofs.invariants.Goals as goal

pub returns : goal.returns
returns c = invariants_hold
