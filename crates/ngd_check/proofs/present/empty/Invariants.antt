use Rattle.std.proofs.Common.{◌≡◌, drop, length}
use Rattle.ngd_check.specs.Tables.{HoldsBeside}
use Rattle.ngd_check.proofs.present.empty.Given as goal

-- only variables of the pairs that are left have values
abbrev pub invariant-loop-pair : goal.invariant-loop-pair
invariant-loop-pair l = record {
  values : HoldsBeside l.values (drop l.pair-index l.pairs);
  len : length l.values ≡ length l.fn.values;
}
