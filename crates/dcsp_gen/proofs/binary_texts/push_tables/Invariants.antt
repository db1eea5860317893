use Rattle.std.proofs.Common.{◌≡◌, ◌++◌, drop, string_bytes}
use Rattle.abt_schedule.specs.Answers.{word_at}
use Rattle.dcsp_gen.specs.Binary.{table_lines}
use Rattle.dcsp_gen.proofs.binary_texts.push_tables.Given as goal

abbrev pub invariant-loop-edge : goal.invariant-loop-edge
invariant-loop-edge l =
    string_bytes l.text ++ table_lines l.forbidden l.values (word_at l.words) (drop l.edge-index l.edges)
    ≡ string_bytes l.initial.text ++ table_lines l.forbidden l.values (word_at l.initial.words) l.edges
