-- What the marks say of a clause.
use Rattle.std.specs.Prelude.{◌≢◌, ◌<◌, ◌≤◌, ℕ, length, slice_index_or, List, ◌⊎◌, Bool, true, false}
use Rattle.std.specs.List.{Contains}
use Rattle.rup_check.specs.Assignments.{flipped, Has}
use Rattle.rup_check.specs.Stored.{IsPlace}

-- each other literal of the clause is false
abbrev pub OthersFalse : List Bool → List ℕ → ℕ → Type 0
OthersFalse marks clause x = (y : ℕ) → Contains clause y → y ≢ x → Has marks (flipped y)

-- a literal of the clause that is not false
pub record IsOpen (marks : List Bool) (clause : List ℕ) (x : ℕ) : Type 0 where
  pub among : Contains clause x
  pub open_ : Has marks (flipped x) → ⊥

-- at this place is another literal, which is not false
pub record IsOtherOpen (marks : List Bool) (clause : List ℕ) (but place : ℕ) : Type 0 where
  pub within : place < length clause
  pub other : slice_index_or clause place 0 ≢ but
  pub here : IsOpen marks clause (slice_index_or clause place 0)

-- each other literal at these places is false
abbrev pub IsClosedBetween : List Bool → List ℕ → ℕ → ℕ → ℕ → Type 0
IsClosedBetween marks clause but low high = (k : ℕ) → low ≤ k → k < high → slice_index_or clause k 0 ≢ but → Has marks (flipped (slice_index_or clause k 0))

-- the clause has a true literal, or two that are not false
abbrev pub IsQuiet : List Bool → List ℕ → Type 0
IsQuiet marks clause = ((x : ℕ) × Contains clause x × Has marks x) ⊎ ((x : ℕ) × (y : ℕ) × IsOpen marks clause x × IsOpen marks clause y × (x ≢ y))

-- a literal of the clause that is neither true nor false, beside which each other is false
pub record IsUnit (marks : List Bool) (clause : List ℕ) (x : ℕ) : Type 0 where
  pub small : IsPlace x
  pub here : IsOpen marks clause x
  pub absent : Has marks x → ⊥
  pub others : OthersFalse marks clause x

-- whether a literal of the clause is true
abbrev pub SaysTrue : List Bool → List ℕ → Bool → Type 0
SaysTrue marks clause true = (x : ℕ) × Contains clause x × Has marks x
SaysTrue marks clause false = (x : ℕ) → Contains clause x → Has marks x → ⊥
