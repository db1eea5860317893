use Rattle.std.proofs.Common.{◌≡◌, flat_map}
use Rattle.std.specs.List.{range_with_len}
use Rattle.dcsp_gen.specs.Binary.{values_with}
use Rattle.dcsp_gen.proofs.binary_texts.value_pairs.Given as goal

abbrev pub invariant-loop-first : goal.invariant-loop-first
invariant-loop-first l = l.list.items ≡ flat_map (values_with l.count) (range_with_len 0 l.first)
