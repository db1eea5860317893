use Rattle.std.proofs.Common.{◌≡◌, []}
use Rattle.std.proofs.Math.ListN.{replicate}
use Rattle.rup_check.proofs.watches.empty_lists.Given as goal

abbrev pub invariant-loop-place : goal.invariant-loop-place
invariant-loop-place l = l.lists.items ≡ replicate l._place []
