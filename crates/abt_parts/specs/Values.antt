-- Places that stand by values: entries whose values rise.
use Rattle.std.specs.Prelude.{ℕ, ◌<◌, ◌≤◌, ℤ, pos, ◌<ℤ◌, List, [], ◌∷◌, length, Option, Some, None, if◌then◌else◌, slice_index_or}
use Rattle.std.specs.Ordering.{int_eq}
use Rattle.abt_parts.specs.declared.value_places.ValuePlace.{ValuePlace}

-- what stands past a list's end
abbrev pub no_entry : ValuePlace
no_entry = record { value = pos 0; place = 0 }

-- the value of the entry here
abbrev pub value_at : List ValuePlace → ℕ → ℤ
value_at entries at = (slice_index_or entries at no_entry).value

-- each value stands before greater ones
abbrev pub AreRising : List ValuePlace → Type 0
AreRising entries = (i j : ℕ) → i < j → j < length entries → value_at entries i <ℤ value_at entries j

-- the place that stands by a value
abbrev pub place_for : List ValuePlace → ℤ → Option ℕ
place_for [] value = None
place_for (entry ∷ entries) value = if int_eq entry.value value then Some entry.place else place_for entries value

-- an entry of this value belongs here: those before it have lower values, the others greater ones
pub record BelongsAt (entries : List ValuePlace) (value : ℤ) (at : ℕ) : Type 0 where
  pub within : at ≤ length entries
  pub before : (k : ℕ) → k < at → value_at entries k <ℤ value
  pub after : (k : ℕ) → at ≤ k → k < length entries → value <ℤ value_at entries k
