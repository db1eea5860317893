use Rattle.dcsp_order.specs.Turns.{IsNext}
use Rattle.dcsp_order.proofs.by_rule.next_of.Given as goal

abbrev pub invariant-loop-var : goal.invariant-loop-var
invariant-loop-var l = IsNext l.left l.linked l.weights l.var l.next
