use Rattle.std.proofs.Common.{◌≡◌, map}
use Rattle.dcsp_defs.specs.Words.{below}
use Rattle.abt_defs.specs.Network.{Network, values}
use Rattle.abt_network.specs.Standing.{StandsAt}
use Rattle.line_cnf.proofs.apart.values_of.Given as goal

abbrev pub invariant-loop-variable : goal.invariant-loop-variable
invariant-loop-variable l = (net : Network) → StandsAt l.network net → l.list ≡ map (values net) (below l.variable)
