use Rattle.std.proofs.Common.{length}
use Rattle.ngd_rewrite.proofs.LogEnds.{HasFront}
use Rattle.ngd_rewrite.proofs.log.take_lines.Given as goal

-- the text before the rest has come
abbrev pub invariant-loop-others : goal.invariant-loop-others
invariant-loop-others l = HasFront l.reader l.ends.items l.text l.rest

abbrev pub decreases-loop-others : goal.decreases-loop-others
decreases-loop-others l = length l.rest
