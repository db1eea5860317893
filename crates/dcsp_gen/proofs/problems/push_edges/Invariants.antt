use Rattle.std.proofs.Common.{◌≡◌, ℕ, ◌+◌, ◌-◌, ◌++◌, List, map, string_bytes}
use Rattle.std.specs.List.{range_with_len}
use Rattle.abt_schedule.specs.Answers.{word_at}
use Rattle.dcsp_gen.specs.Words.{with_words}
use Rattle.dcsp_gen.specs.Problems.{edge_line, pairs_of}
use Rattle.dcsp_gen.proofs.problems.push_edges.Given as goal

abbrev pub invariant-loop-second : goal.invariant-loop-second
invariant-loop-second l =
    (later : List (ℕ × ℕ)) →
    string_bytes l.text ++ with_words edge_line (word_at l.words) (map (λ second. (l.first, second)) (range_with_len l.second (l.n + 1 - l.second)) ++ later)
    ≡ string_bytes l.initial.text ++ with_words edge_line (word_at l.initial.words) (pairs_of l.n l.first ++ later)
