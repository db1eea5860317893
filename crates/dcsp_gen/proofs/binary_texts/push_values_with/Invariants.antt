use Rattle.std.proofs.Common.{◌≡◌, ◌++◌, map}
use Rattle.std.specs.List.{range_with_len}
use Rattle.dcsp_gen.proofs.binary_texts.push_values_with.Given as goal

abbrev pub invariant-loop-second : goal.invariant-loop-second
invariant-loop-second l = l.list.items ≡ l.initial.list.items ++ map (λ second. (l.first, second)) (range_with_len 0 l.second)
