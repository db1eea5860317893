use Rattle.std.proofs.Common.{◌≡◌, take, map}
use Rattle.dcsp_order.specs.Under.{output_under}
use Rattle.dcsp_order.proofs.order.Order.outputs_under.Given as goal

abbrev pub invariant-loop-place : goal.invariant-loop-place
invariant-loop-place l = l.outputs.items ≡ map (output_under l.self) (take l.place l.problem.outputs)
