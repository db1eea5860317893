use Rattle.std.proofs.Common.{◌≡◌, ◌++◌, map, take, flat_map, codes, string_bytes}
use Rattle.abt_words.specs.Rows.{option_in}
use Rattle.abt_words.specs.Texts.{option_usage}
use Rattle.abt_words.proofs.texts.push_options_usage.Given as goal

abbrev pub invariant-loop-option : goal.invariant-loop-option
invariant-loop-option l = string_bytes l.text ≡ string_bytes l.initial.text ++ flat_map (λ option. codes " " ++ option_usage option) (map option_in (take l.option-index l.options))
