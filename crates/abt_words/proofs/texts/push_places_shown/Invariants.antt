use Rattle.std.proofs.Common.{◌≡◌, ◌++◌, map, take, flat_map, codes, string_bytes}
use Rattle.abt_words.specs.Rows.{place_in}
use Rattle.abt_words.proofs.texts.push_places_shown.Given as goal

abbrev pub invariant-loop-place : goal.invariant-loop-place
invariant-loop-place l = string_bytes l.text ≡ string_bytes l.initial.text ++ flat_map (λ place. codes " " ++ place.shown) (map place_in (take l.place-index l.places))
