use Rattle.std.proofs.Common.{◌≡◌, ℕ, List, map, option_copied}
use Rattle.dcsp_defs.specs.Words.{below}
use Rattle.abt_defs.specs.Network.{values}
use Rattle.dcsp_order.specs.Told.{values_told}
use Rattle.abt_lossy.specs.InWorld.{reached, IsAfter}
use Rattle.line_lossy.proofs.ending.values_of.Given as goal

abbrev pub invariant-loop-number : goal.invariant-loop-number
invariant-loop-number l = (words : List ℕ) → IsAfter l.medium words → l.list ≡ map (values_told (option_copied l.order) (values (reached l.medium words).network)) (below l.number)
