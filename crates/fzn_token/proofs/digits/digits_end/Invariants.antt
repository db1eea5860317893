use Rattle.std.proofs.Common.{length, ◌-◌}
use Rattle.fzn_token.specs.Bytes.{is_digit_in, IsRun}
use Rattle.fzn_token.proofs.digits.digits_end.Given as goal

abbrev pub invariant-loop-at : goal.invariant-loop-at
invariant-loop-at l = IsRun (is_digit_in l.base) l.text l.from l.at

abbrev pub decreases-loop-at : goal.decreases-loop-at
decreases-loop-at l = length l.text - l.at
