use Rattle.std.proofs.Common.{◌-◌, ◌++◌, ℕ, List, length}
use Rattle.ngd_rewrite.specs.Endings.{Follows}
use Rattle.ngd_rewrite.proofs.ChainLaws.{HasRest}
use Rattle.ngd_rewrite.proofs.endings.add_chain.Given as goal

-- the numbers so far and those of the rest of the chain are those of the chain
abbrev pub invariant-loop-place : goal.invariant-loop-place
invariant-loop-place l = (numbers : List ℕ) → Follows l.nexts l.first numbers → HasRest l.nexts l.place l.into.items (l.fn.into.items ++ numbers)

abbrev pub decreases-loop-place : goal.decreases-loop-place
decreases-loop-place l = length l.nexts - l.place
