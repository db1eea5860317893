use Rattle.std.proofs.Common.{◌≡◌, ◌++◌, drop, map}
use Rattle.dcsp_rule.specs.Problems.{csp_of}
use Rattle.abt_defs.specs.Network.{Network, ready}
use Rattle.abt_network.specs.Standing.{StandsAt}
use Rattle.abt_measure.specs.Starting.{leading, tell_to}
use Rattle.abt_measure.proofs.starting.sent_by.Given as goal

abbrev pub invariant-loop-number : goal.invariant-loop-number
invariant-loop-number l = (net : Network) → StandsAt l.network net
    → l.sent.items ++ map tell_to (leading l.agent (drop l.number (ready (csp_of l.network.problem) net))) ≡ map tell_to (leading l.agent (drop l.place (ready (csp_of l.network.problem) net)))
