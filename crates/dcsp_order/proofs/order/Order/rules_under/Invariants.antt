use Rattle.std.proofs.Common.{◌≡◌, take, map}
use Rattle.dcsp_order.specs.Under.{rule_under}
use Rattle.dcsp_order.proofs.order.Order.rules_under.Given as goal

abbrev pub invariant-loop-number : goal.invariant-loop-number
invariant-loop-number l = l.rules ≡ map (rule_under l.self) (take l.number l.problem.rules)
