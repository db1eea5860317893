use Rattle.std.proofs.Common.{◌≡◌, ◌++◌, map, take, flat_map, string_bytes}
use Rattle.abt_words.specs.Rows.{row_in}
use Rattle.abt_words.specs.Texts.{row_help}
use Rattle.abt_words.proofs.texts.push_rows_help.Given as goal

abbrev pub invariant-loop-row : goal.invariant-loop-row
invariant-loop-row l = string_bytes l.text ≡ string_bytes l.initial.text ++ flat_map row_help (map row_in (take l.row-index l.rows))
