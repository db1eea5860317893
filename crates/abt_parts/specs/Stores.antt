-- What a store holds, in the words of the definitions of agents.
use Rattle.std.specs.Prelude.{ℕ, ◌-◌, ◌≤◌, ℤ, Bool, not, ◌||◌, ◌==◌, List, map, filter, length, slice_get, Option, count_by}
use Rattle.std.specs.List.{list_all, list_any, enumerate_from, position_from}
use Rattle.std.specs.Option.{option_map}
use Rattle.std.specs.Ordering.{int_eq}
use Rattle.dcsp_defs.specs.declared.nogood.Pair.{Pair}
use Rattle.dcsp_defs.specs.Words.{is_value}
use Rattle.abt_defs.specs.Agents.{Record}
use Rattle.abt_defs.specs.Steps.{is_named}
use Rattle.abt_parts.specs.declared.recorded.Recorded.{Recorded}

-- the nogood that is kept, as the definitions have it
abbrev pub record_of : Recorded → Record
record_of item = record { step = item.step; pairs = item.nogood }

-- all of them, in order
abbrev pub records_of : List Recorded → List Record
records_of items = map record_of items

-- the value of the last pair, which is the one with the lowest priority
abbrev pub lowest_value : List Pair → Option ℤ
lowest_value pairs = option_map (λ (pair : Pair). pair.value) (slice_get pairs (length pairs - 1))

-- the item's lowest pair has this value
abbrev pub is_against : ℤ → Recorded → Bool
is_against value item = is_value (lowest_value item.nogood) value

-- some item's lowest pair has this value
abbrev pub is_ruled_out : ℤ → List Recorded → Bool
is_ruled_out value items = list_any (is_against value) items

-- the place, counted from 0, of the first item whose lowest pair has this value
abbrev pub place_against : ℤ → List Recorded → Option ℕ
place_against value items = position_from (is_against value) 0 items

-- no value is that of two items' lowest pairs
abbrev pub IsOncePerValue : List Recorded → Type 0
IsOncePerValue items = (value : ℤ) → count_by (is_against value) items ≤ 1

-- the places, counted from a first place, of the items whose nogood names the variable
abbrev pub places_from : ℕ → List Recorded → ℕ → List ℕ
places_from first items var = map (λ (x : ℕ × Recorded). x.0) (filter (λ (x : ℕ × Recorded). is_named var x.1.nogood) (enumerate_from first items))

-- the places of the items whose nogood names the variable
abbrev pub places_naming : List Recorded → ℕ → List ℕ
places_naming items var = places_from 0 items var

-- no pair of the item gives the variable another value
abbrev pub fits : ℕ → ℤ → Recorded → Bool
fits var value item = list_all (λ (pair : Pair). not (var == pair.var) || int_eq pair.value value) item.nogood
