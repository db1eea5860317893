use Rattle.std.proofs.Common.{◌≡◌, ◌-◌, length}
use Rattle.std.specs.Prelude.{slice_range}
use Rattle.std.specs.Str.Parse.{digits_value}
use Rattle.fzn_token.specs.Bytes.{is_digit_in, IsRun}
use Rattle.fzn_token.proofs.plain.plain_digits.Given as goal

-- the bytes so far are digits of this value
abbrev pub invariant-loop-at : goal.invariant-loop-at
invariant-loop-at l = record {
  run : IsRun (is_digit_in 10) l.text l.from l.at;
  value : l.value ≡ digits_value 10 (slice_range l.text l.from l.at);
}

abbrev pub decreases-loop-at : goal.decreases-loop-at
decreases-loop-at l = length l.text - l.at
