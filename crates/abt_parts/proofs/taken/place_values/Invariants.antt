use Rattle.std.proofs.Common.{◌≡◌, ℤ, true, take}
use Rattle.abt_parts.specs.Stores.{is_ruled_out, place_against}
use Rattle.abt_parts.specs.Index.{AreTaken}
use Rattle.abt_parts.specs.Values.{place_for}
use Rattle.abt_parts.proofs.taken.place_values.Given as goal

abbrev pub invariant-loop-place : goal.invariant-loop-place
invariant-loop-place l =
    AreTaken l.items (place_for l.places)
    × ((value : ℤ) → is_ruled_out value (take l.place l.items) ≡ true → place_for l.places value ≡ place_against value (take l.place l.items))
