use Rattle.std.proofs.Common.{◌≡◌, ◌-◌, ◌++◌, flat_map, string_bytes}
use Rattle.std.specs.List.{range_with_len}
use Rattle.dcsp_gen.specs.Problems.{apart_line, pairs_of}
use Rattle.dcsp_gen.proofs.problems.pigeons_lines.Given as goal

abbrev pub invariant-loop-first : goal.invariant-loop-first
invariant-loop-first l =
    string_bytes l.text ≡ string_bytes l.initial.text ++ flat_map apart_line (flat_map (pairs_of l.n) (range_with_len 1 (l.first - 1)))
