use Rattle.std.proofs.Common.{◌≡◌}
use Rattle.dcsp_order.proofs.Pairs.{first_pairs}
use Rattle.dcsp_order.proofs.order.Order.nogood_told.Given as goal

abbrev pub invariant-loop-number : goal.invariant-loop-number
invariant-loop-number l = l.pairs.items ≡ first_pairs l.self l.nogood l.number
