-- What stands beside the items of a store.
use Rattle.std.specs.Prelude.{◌≡◌, ℕ, ◌<◌, ◌≤◌, ℤ, List, Option, is_some, length, slice_index_or, take}
use Rattle.dcsp_defs.specs.declared.nogood.Pair.{Pair}
use Rattle.dcsp_defs.specs.Pairs.{var_at}
use Rattle.abt_parts.specs.declared.recorded.Recorded.{Recorded}
use Rattle.abt_parts.specs.Places.{Places, no_places}
use Rattle.abt_parts.specs.Stores.{is_ruled_out, place_against, places_naming, IsOncePerValue}

-- the list of a variable; there is nothing past the last one
abbrev pub list_of : List Places → ℕ → Places
list_of lists var = slice_index_or lists var no_places

-- the list of a variable has room for one place more
abbrev pub HasRoom : List Places → ℕ → Type 0
HasRoom lists var = length (list_of lists var).items < (list_of lists var).capacity

-- the list of each of the pairs' variables has room for one place more
abbrev pub HaveRoom : List Places → List Pair → Type 0
HaveRoom lists pairs = (k : ℕ) → k < length pairs → HasRoom lists (var_at pairs k)

-- for each variable the places of the items that name it
abbrev pub AreNamed : List Recorded → List Places → Type 0
AreNamed items lists = (var : ℕ) → (list_of lists var).items ≡ places_naming items var

-- where fewer places of the items before the first name a variable than of all, its list has room for all
abbrev pub HaveRoomFrom : ℕ → List Recorded → List Places → Type 0
HaveRoomFrom first items lists = (var : ℕ) → length (places_naming (take first items) var) < length (places_naming items var) → length (places_naming items var) ≤ (list_of lists var).capacity

-- a place stands by exactly the values of the items' lowest pairs
abbrev pub AreTaken : List Recorded → (ℤ → Option ℕ) → Type 0
AreTaken items places = (value : ℤ) → is_some (places value) ≡ is_ruled_out value items

-- it is the place of the item
abbrev pub ArePlaced : List Recorded → (ℤ → Option ℕ) → Type 0
ArePlaced items places = (value : ℤ) → places value ≡ place_against value items

-- beside the items stand their places by the values of their lowest pairs, each of them once, and for each variable the
-- places that name it
pub record IsIndexed (items : List Recorded) (places : ℤ → Option ℕ) (lists : List Places) : Type 0 where
  pub once : IsOncePerValue items
  pub placed : ArePlaced items places
  pub named : AreNamed items lists
