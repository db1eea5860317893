use Rattle.std.proofs.Common.{◌≡◌, ◌+◌, ◌-◌, ◌++◌, flat_map, string_bytes}
use Rattle.std.specs.List.{range_with_len}
use Rattle.abt_schedule.specs.Answers.{word_at}
use Rattle.dcsp_gen.specs.Words.{with_words}
use Rattle.dcsp_gen.specs.Problems.{edge_line, pairs_of, pairs}
use Rattle.dcsp_gen.proofs.problems.colouring_lines.Given as goal

abbrev pub invariant-loop-first : goal.invariant-loop-first
invariant-loop-first l =
    string_bytes l.text ++ with_words edge_line (word_at l.words) (flat_map (pairs_of l.n) (range_with_len l.first (l.n + 1 - l.first)))
    ≡ string_bytes l.initial.text ++ with_words edge_line (word_at l.initial.words) (pairs l.n)
