use Rattle.std.proofs.Common.{◌≡◌, ◌≤◌, ◌+◌, ◌*◌, ◌++◌, take, FitsSigned}
use Rattle.std.specs.Prelude.{codes, flat_map}
use Rattle.std.specs.Int.{w64}
use Rattle.std.specs.List.{AllByRecursion}
use Rattle.dcsp_defs.specs.declared.nogood.Pair.{Pair}
use Rattle.ngd_log.specs.StepText.{pair_text}
use Rattle.ngd_log.proofs.writer.put_pairs.Given as goal

-- the pairs so far are written, each after a comma
abbrev pub invariant-loop-pair : goal.invariant-loop-pair
invariant-loop-pair l = record {
  place : l.at ≤ l.initial.at + 48 * l.pair-index;
  text : take l.at l.room ≡ take l.initial.at l.initial.room ++ flat_map (λ (z : Pair). codes "," ++ pair_text z) (take l.pair-index l.others);
  values : AllByRecursion (λ (z : Pair). FitsSigned w64 z.value) (take l.pair-index l.others);
}
