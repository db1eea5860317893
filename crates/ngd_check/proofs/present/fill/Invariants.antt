use Rattle.std.proofs.Common.{◌≡◌, ◌≤◌, drop, length}
use Rattle.ngd_check.specs.Tables.{Gives}
use Rattle.ngd_check.proofs.present.fill.Given as goal

-- the table has the values of the pairs from place k on
abbrev pub invariant-loop-k : goal.invariant-loop-k
invariant-loop-k l = record {
  place : l.k ≤ length l.pairs;
  values : Gives l.values (drop l.k l.pairs);
  len : length l.values ≡ length l.fn.values;
}

abbrev pub decreases-loop-k : goal.decreases-loop-k
decreases-loop-k l = l.k
