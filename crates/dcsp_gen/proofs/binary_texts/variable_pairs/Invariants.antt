use Rattle.std.proofs.Common.{◌≡◌, ◌-◌, flat_map}
use Rattle.std.specs.List.{range_with_len}
use Rattle.dcsp_gen.specs.Problems.{pairs_of}
use Rattle.dcsp_gen.proofs.binary_texts.variable_pairs.Given as goal

abbrev pub invariant-loop-first : goal.invariant-loop-first
invariant-loop-first l = l.list.items ≡ flat_map (pairs_of l.n) (range_with_len 1 (l.first - 1))
