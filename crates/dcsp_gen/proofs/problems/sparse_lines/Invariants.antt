use Rattle.std.proofs.Common.{◌≡◌, ◌+◌, ◌-◌, ◌++◌, flat_map, string_bytes}
use Rattle.std.specs.List.{range_with_len}
use Rattle.abt_schedule.specs.Answers.{word_at}
use Rattle.dcsp_gen.specs.Words.{with_words}
use Rattle.dcsp_gen.specs.Problems.{neighbour_line, thrice}
use Rattle.dcsp_gen.proofs.problems.sparse_lines.Given as goal

abbrev pub invariant-loop-node : goal.invariant-loop-node
invariant-loop-node l =
    string_bytes l.text ++ with_words neighbour_line (word_at l.words) (flat_map thrice (range_with_len l.node (l.n + 1 - l.node)))
    ≡ string_bytes l.initial.text ++ with_words neighbour_line (word_at l.initial.words) (flat_map thrice (range_with_len 2 (l.n - 1)))
