use Rattle.ngd_rewrite.proofs.ChainLaws.{AreLinked}
use Rattle.ngd_rewrite.proofs.endings.link_all.Given as goal

-- the steps from this place on are linked
abbrev pub invariant-loop-place : goal.invariant-loop-place
invariant-loop-place l = AreLinked l.ends l.firsts l.nexts l.place

abbrev pub decreases-loop-place : goal.decreases-loop-place
decreases-loop-place l = l.place
