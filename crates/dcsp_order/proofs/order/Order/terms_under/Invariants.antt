use Rattle.std.proofs.Common.{◌≡◌, take}
use Rattle.dcsp_order.specs.Under.{terms_under}
use Rattle.dcsp_order.proofs.order.Order.terms_under.Given as goal

abbrev pub invariant-loop-term : goal.invariant-loop-term
invariant-loop-term l = l.moved.items ≡ terms_under l.self (take l.term-index l.terms)
