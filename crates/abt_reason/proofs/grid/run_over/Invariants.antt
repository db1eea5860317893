use Rattle.std.proofs.Common.{◌≡◌, ◌<◌, ◌≤◌, ℕ, false}
use Rattle.abt_reason.specs.Grids.{is_marked_at}
use Rattle.abt_reason.proofs.grid.run_over.Given as goal

abbrev pub invariant-loop-place : goal.invariant-loop-place
invariant-loop-place l = record {
  later : l.value < l.end;
  most : l.end ≤ l.values;
  none : (k : ℕ) → l.value ≤ k → k < l.end → (j : ℕ) → j < l.place → is_marked_at l.rows j k ≡ false;
}
