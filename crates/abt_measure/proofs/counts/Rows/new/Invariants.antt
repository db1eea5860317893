use Rattle.std.proofs.Common.{◌≡◌, ℕ, length}
use Rattle.abt_measure.specs.Rows.{as_row, no_row}
use Rattle.abt_measure.specs.Counting.{row_at}
use Rattle.abt_measure.proofs.counts.Rows.new.Given as goal

abbrev pub invariant-loop-agent : goal.invariant-loop-agent
invariant-loop-agent l = record {
  long : length l.rows.items ≡ l._agent;
  none : (k : ℕ) → as_row (row_at l.rows.items k) ≡ no_row;
}
