use Rattle.std.proofs.Common.{subst}
use Rattle.abt_parts.specs.Stores.{IsOncePerValue}
use Rattle.abt_parts.proofs.store.Store.items.Goals as goal

pub returns-clause-once : goal.returns-clause-once
returns-clause-once c = subst IsOncePerValue c.self.view_is c.self.invariant.once
