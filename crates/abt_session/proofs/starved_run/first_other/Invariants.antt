use Rattle.std.proofs.Common.{◌≡◌, ℕ, ◌<◌, Some, slice_get}
use Rattle.dcsp_rule.specs.Problems.{csp_of}
use Rattle.abt_defs.specs.Network.{Network, ready}
use Rattle.abt_network.specs.Standing.{StandsAt}
use Rattle.abt_session.proofs.starved_run.first_other.Given as goal

abbrev pub invariant-loop-number : goal.invariant-loop-number
invariant-loop-number l = (net : Network) → StandsAt l.network net → (k : ℕ) → k < l.number → slice_get (ready (csp_of l.network.problem) net) k ≡ Some (l.from, l.to)
