use Rattle.std.proofs.Common.{◌≡◌, ◌+◌, ◌-◌, ◌++◌, flat_map, map, string_bytes}
use Rattle.std.specs.List.{range_with_len}
use Rattle.dcsp_gen.specs.Problems.{apart_line}
use Rattle.dcsp_gen.proofs.problems.push_apart.Given as goal

abbrev pub invariant-loop-second : goal.invariant-loop-second
invariant-loop-second l =
    string_bytes l.text ≡ string_bytes l.initial.text ++ flat_map apart_line (map (λ second. (l.first, second)) (range_with_len (l.first + 1) (l.second - (l.first + 1))))
