-- Orders of a problem's variables: a list of their numbers, the first of which has the highest priority.
use Rattle.std.specs.Prelude.{◌≡◌, ℕ, ◌+◌, ◌<◌, ◌≤◌, ◌==◌, List, [], ◌∷◌, length, slice_index_or, if◌then◌else◌}
use Rattle.dcsp_defs.specs.Words.{In}
use Rattle.dcsp_common.specs.declared.limits.Which.TheVariants.{Variables}
use Rattle.dcsp_common.specs.Limits.{most}

-- the number at a place; past the list's end the place itself
abbrev pub number_at : List ℕ → ℕ → ℕ
number_at order place = slice_index_or order place place

-- the first place of a number; where it has none, the list's length
abbrev pub place_of : List ℕ → ℕ → ℕ
place_of [] number = 0
place_of (first ∷ order) number = if number == first then 0 else place_of order number + 1

-- no number stands twice
abbrev pub IsDistinct : List ℕ → Type 0
IsDistinct [] = Unit {0}
IsDistinct (first ∷ order) = (In first order → ⊥) × IsDistinct order

-- an order of so many variables: each of them stands in it once
pub record IsOrder (variables : ℕ) (order : List ℕ) : Type 0 where
  pub whole : length order ≡ variables
  pub inside : (number : ℕ) → In number order → number < variables
  pub once : IsDistinct order

-- the place of each number of the order
pub record ArePlaces (order places : List ℕ) : Type 0 where
  pub as_many : length places ≡ length order
  pub each : (number : ℕ) → number < length order → slice_index_or places number 0 ≡ place_of order number

-- an order beside the places of its numbers, which are no more than a problem may have
pub record IsKept (order places : List ℕ) : Type 0 where
  pub is_order : IsOrder (length order) order
  pub few : length order ≤ most Variables
  pub places_are : ArePlaces order places
