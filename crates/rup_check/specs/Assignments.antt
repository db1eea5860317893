-- The marks of the literals in a set, and the trail of what was marked.
use Rattle.std.specs.Prelude.{◌≡◌, ◌≢◌, ℕ, ◌<◌, ◌≤◌, ◌+◌, ◌-◌, List, Bool, true, false, not, length, count_by}
use Rattle.std.specs.List.{Contains, All, slice_index_or}
use Rattle.rup_check.specs.Propagation.{Forced}
use Rattle.rup_check.specs.Stored.{IsPlace, places}

-- the negation of a literal, where variable v stands at 4095 + v, and its negation at 4096 - v
abbrev pub flipped : ℕ → ℕ
flipped x = 8191 - x

-- the literal is marked
abbrev pub Has : List Bool → ℕ → Type 0
Has marks x = slice_index_or marks x false ≡ true

-- marks, and the trail of what was marked
pub record IsAssignment (marks : List Bool) (trail : List ℕ) : Type 0 where
  pub size : length marks ≡ places
  pub small : All IsPlace trail
  pub listed : (x : ℕ) → Has marks x → Contains trail x
  pub marked : (x : ℕ) → Contains trail x → Has marks x
  pub counted : count_by not marks + length trail ≡ places
  pub apart : (i j : ℕ) → i < j → j < length trail → slice_index_or trail i 0 ≢ slice_index_or trail j 0

-- what is marked is forced, and nothing is marked beside its negation
pub record IsSound (formula : List (List ℕ)) (start : List ℕ) (marks : List Bool) : Type 0 where
  pub within : (x : ℕ) → Has marks x → Forced flipped formula start x
  pub consistent : (x : ℕ) → Has marks x → Has marks (flipped x) → ⊥
