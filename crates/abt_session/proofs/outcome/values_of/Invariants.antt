use Rattle.std.proofs.Common.{◌≡◌, map}
use Rattle.dcsp_defs.specs.Words.{below}
use Rattle.abt_defs.specs.Network.{Network, values}
use Rattle.abt_network.specs.Standing.{StandsAt}
use Rattle.dcsp_order.specs.Told.{values_told}
use Rattle.abt_session.specs.Ordering.{order_in}
use Rattle.abt_session.proofs.outcome.values_of.Given as goal

abbrev pub invariant-loop-number : goal.invariant-loop-number
invariant-loop-number l = (net : Network) → StandsAt l.network net → l.list ≡ map (values_told (order_in l.model) (values net)) (below l.number)
