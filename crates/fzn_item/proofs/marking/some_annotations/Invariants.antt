use Rattle.std.proofs.Common.{length, ◌≤◌}
use Rattle.fzn_item.proofs.MarkLaws.{AreSoFar}
use Rattle.fzn_item.proofs.marking.some_annotations.Given as goal

abbrev pub invariant-loop-after : goal.invariant-loop-after
invariant-loop-after l = AreSoFar l.text l.tokens l.marked l.rest × (length l.rest ≤ length l.tokens)

abbrev pub decreases-loop-after : goal.decreases-loop-after
decreases-loop-after l = length l.rest
