use Rattle.std.proofs.Common.{length, ◌≤◌}
use Rattle.fzn_item.proofs.ItemLaws.{HasNoneSoFar}
use Rattle.fzn_item.proofs.reading.after_semicolon.Given as goal

abbrev pub invariant-loop-first : goal.invariant-loop-first
invariant-loop-first l = HasNoneSoFar l.tokens l.rest × (length l.rest ≤ length l.tokens)

abbrev pub decreases-loop-first : goal.decreases-loop-first
decreases-loop-first l = length l.rest
