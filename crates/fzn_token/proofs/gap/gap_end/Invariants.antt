use Rattle.std.proofs.Common.{length, ◌-◌}
use Rattle.fzn_token.proofs.GapLaws.{IsGapSoFar}
use Rattle.fzn_token.proofs.gap.gap_end.Given as goal

abbrev pub invariant-loop-at : goal.invariant-loop-at
invariant-loop-at l = IsGapSoFar l.text l.from l.at

abbrev pub decreases-loop-at : goal.decreases-loop-at
decreases-loop-at l = length l.text - l.at
