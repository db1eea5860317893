use Rattle.std.proofs.Common.{◌≡◌, [], subst, arith}
use Rattle.std.proofs.Math.ListN.{replicate}
use Rattle.rup_check.proofs.watches.empty_lists.Goals as goal

pub returns : goal.returns
returns c = let n : c.loop-place._place ≡ 8192 = omega arith in subst (λ k. c.loop-place.lists.items ≡ replicate k []) n c.loop-place.invariant
