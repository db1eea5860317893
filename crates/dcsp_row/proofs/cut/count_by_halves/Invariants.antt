use Rattle.std.proofs.Common.{◌≡◌, ℕ, ◌<◌, ◌≤◌, ◌-◌, true, false, length}
use Rattle.std.specs.Prelude.{int_lt, pos, ◌*ℤ◌}
use Rattle.dcsp_row.specs.Rows.{own_at}
use Rattle.dcsp_row.proofs.cut.count_by_halves.Given as goal

abbrev pub invariant-loop-low : goal.invariant-loop-low
invariant-loop-low l = record {
  order : l.low ≤ l.high;
  within : l.high ≤ length l.domain;
  below : (k : ℕ) → k < l.low → int_lt (pos l.factor *ℤ own_at l.domain k) l.bound ≡ true;
  above : (k : ℕ) → l.high ≤ k → k < length l.domain → int_lt (pos l.factor *ℤ own_at l.domain k) l.bound ≡ false;
}

abbrev pub decreases-loop-low : goal.decreases-loop-low
decreases-loop-low l = l.high - l.low
