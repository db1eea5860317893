use Rattle.std.proofs.Common.{◌≡◌, ◌++◌, map, take, flat_map, string_bytes}
use Rattle.abt_words.specs.Rows.{Text}
use Rattle.abt_words.proofs.texts.push_each.Given as goal

abbrev pub invariant-loop-item : goal.invariant-loop-item
invariant-loop-item l = string_bytes l.text ≡ string_bytes l.initial.text ++ flat_map (λ text. l.before ++ text ++ l.behind) (map (λ (item : Text). item.now) (take l.item-index l.items))
