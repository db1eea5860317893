-- What the agents of a reached network have recorded.
use Rattle.dcsp_defs.specs.Csp.{Csp}
use Rattle.law_agent.proofs.Sounds.{sounds}
use Rattle.law_agent.specs.Stores.{BoundedStores}
use Rattle.law_agent.proofs.Lengths.{bounded_store}

pub bounded_stores : (p : Csp) → BoundedStores p
bounded_stores p ok cs i = bounded_store p i _ ((sounds p ok cs).sound i)
