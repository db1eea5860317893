-- Decimal digits with nothing behind them that goes on with a number.
use Rattle.std.specs.Prelude.{◌≡◌, ℕ, ◌<◌, List, length, slice_index, slice_range, false}
use Rattle.std.specs.Str.Parse.{digits_value}
use Rattle.fzn_token.specs.Bytes.{is_letter, is_digit_in, IsWholeRun}

-- the decimal digits from place i on end at place j and have value n; no `.` and no letter follows
pub record IsPlain (text : List ℕ) (i j n : ℕ) : Type 0 where
  pub some : i < j
  pub whole : IsWholeRun (is_digit_in 10) text i j
  pub value : n ≡ digits_value 10 (slice_range text i j)
  pub no_point : j < length text → slice_index text j ≡ 46 → ⊥
  pub no_letter : j < length text → is_letter (slice_index text j) ≡ false
