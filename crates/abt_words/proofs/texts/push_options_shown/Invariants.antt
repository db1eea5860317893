use Rattle.std.proofs.Common.{◌≡◌, ◌++◌, map, take, flat_map, string_bytes}
use Rattle.abt_words.specs.Rows.{option_in}
use Rattle.abt_words.specs.Texts.{option_shown}
use Rattle.abt_words.proofs.texts.push_options_shown.Given as goal

abbrev pub invariant-loop-option : goal.invariant-loop-option
invariant-loop-option l = string_bytes l.text ≡ string_bytes l.initial.text ++ flat_map option_shown (map option_in (take l.option-index l.options))
