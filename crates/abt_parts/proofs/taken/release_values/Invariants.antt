use Rattle.std.proofs.Common.{◌≡◌, ◌++◌, ℤ, true, filter, take, drop}
use Rattle.std.specs.Prelude.{is_some}
use Rattle.abt_parts.specs.Stores.{fits}
use Rattle.abt_parts.specs.Index.{AreTaken}
use Rattle.abt_parts.specs.Values.{place_for}
use Rattle.abt_parts.proofs.taken.release_values.Given as goal

abbrev pub invariant-loop-place : goal.invariant-loop-place
invariant-loop-place l = record {
  taken : AreTaken (filter (fits l.known.var l.known.value) (take l.place l.items) ++ drop l.place l.items) (place_for l.places);
  kept : (value : ℤ) → is_some (place_for l.places value) ≡ true → place_for l.places value ≡ place_for l.initial.places value;
}
