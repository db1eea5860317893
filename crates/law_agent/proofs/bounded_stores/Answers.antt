use Rattle.law_agent.proofs.StoreRuns.{bounded_stores}
use Rattle.law_agent.proofs.bounded_stores.Goals as goal

pub returns : goal.returns
returns c = bounded_stores
