-- Entries whose numbers rise.
use Rattle.std.specs.Prelude.{ℕ, ◌+◌, ◌<◌, ◌≤◌, ◌==◌, List, [], ◌∷◌, length, map, Option, Some, None, if◌then◌else◌, slice_index_or}
use Rattle.dcsp_common.specs.declared.entries.Entry.{Entry}

-- the numbers of the entries, in order
abbrev pub numbers_of : {T : Type 0} → List (Entry T) → List ℕ
numbers_of entries = map (λ entry. entry.number) entries

-- the number at a place
abbrev pub number_at : {T : Type 0} → List (Entry T) → ℕ → ℕ
number_at entries place = slice_index_or (numbers_of entries) place 0

-- each number stands before a greater one
abbrev pub AreRising : {T : Type 0} → List (Entry T) → Type 0
AreRising entries = (place : ℕ) → place + 1 < length entries → number_at entries place < number_at entries (place + 1)

-- the item that stands by a number
abbrev pub item_for : {T : Type 0} → List (Entry T) → ℕ → Option T
item_for [] number = None
item_for (entry ∷ entries) number = if entry.number == number then Some entry.item else item_for entries number

-- an entry of this number belongs at this place: those before it have lower numbers, the others greater ones
pub record BelongsAt {T : Type 0} (entries : List (Entry T)) (number place : ℕ) : Type 0 where
  pub within : place ≤ length entries
  pub before : (k : ℕ) → k < place → number_at entries k < number
  pub after : (k : ℕ) → place ≤ k → k < length entries → number < number_at entries k

-- each number is below this one
abbrev pub AreBelow : {T : Type 0} → ℕ → List (Entry T) → Type 0
AreBelow bound entries = (place : ℕ) → place < length entries → number_at entries place < bound

-- in so much room there is an entry for each number below one that is greater than this one and all numbers of the entries
pub record HasRoomFor {T : Type 0} (number capacity : ℕ) (entries : List (Entry T)) : Type 0 where
  pub bound : ℕ
  pub below : AreBelow bound entries
  pub greater : number < bound
  pub room : bound ≤ capacity
