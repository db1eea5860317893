use Rattle.std.proofs.Common.{◌≡◌, take, map}
use Rattle.dcsp_order.specs.Under.{domain_at}
use Rattle.dcsp_order.proofs.order.Order.domains_under.Given as goal

abbrev pub invariant-loop-place : goal.invariant-loop-place
invariant-loop-place l = l.domains.items ≡ map (domain_at l.problem) (take l.place l.numbers)
