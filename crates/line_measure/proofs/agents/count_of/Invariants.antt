use Rattle.std.proofs.Common.{◌≡◌, ◌≤◌, ◌==◌, filter, length, take}
use Rattle.dcsp_defs.specs.declared.nogood.Pair.{Pair}
use Rattle.line_measure.proofs.agents.count_of.Given as goal

abbrev pub invariant-loop-pair : goal.invariant-loop-pair
invariant-loop-pair l = record {
  count : l.count ≡ length (filter (λ (y : Pair). y.var == l.owner) (take l.pair-index l.pairs));
  few : l.count ≤ l.pair-index;
}
