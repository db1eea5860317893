use Rattle.std.proofs.Common.{◌≡◌, ◌++◌, length}
use Rattle.ngd_store.proofs.reasons.add_all.Given as goal

-- what is left are the other reasons
abbrev pub invariant-loop-reason : goal.invariant-loop-reason
invariant-loop-reason l = l.into.items ++ l.left ≡ l.fn.into.items ++ l.fn.reasons

abbrev pub decreases-loop-reason : goal.decreases-loop-reason
decreases-loop-reason l = length l.left
