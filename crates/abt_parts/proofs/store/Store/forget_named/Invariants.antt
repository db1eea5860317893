use Rattle.std.proofs.Common.{◌≡◌, filter, length}
use Rattle.abt_parts.specs.Stores.{fits}
use Rattle.abt_parts.proofs.store.Store.forget_named.Given as goal

abbrev pub invariant-loop-self : goal.invariant-loop-self
invariant-loop-self l = filter (fits l.known.var l.known.value) l.self ≡ filter (fits l.known.var l.known.value) l.initial.self

abbrev pub decreases-loop-self : goal.decreases-loop-self
decreases-loop-self l = length l.self
