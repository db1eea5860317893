-- Clauses in one list, by their ends.
use Rattle.std.specs.Prelude.{◌≡◌, ℕ, ◌<◌, ◌≤◌, suc, zero, List, [], ◌∷◌, length, slice_range, slice_index}
use Rattle.std.specs.List.{All}
use Rattle.rup_check.specs.Stored.{IsPlace}

-- the parts from here to the first end, from there to the next, and so on
abbrev pub parts : ℕ → List ℕ → List ℕ → List (List ℕ)
parts from [] xs = []
parts from (e ∷ es) xs = slice_range xs from e ∷ parts e es xs

-- where part k begins
abbrev pub part_start : ℕ → List ℕ → ℕ → ℕ
part_start from es zero = from
part_start from es (suc k) = slice_index es k

-- the ends rise, and the last is the list's
pub record AreEnds (es xs : List ℕ) : Type 0 where
  pub rising : (k : ℕ) → k < length es → part_start 0 es k ≤ slice_index es k
  pub within : (k : ℕ) → k < length es → slice_index es k ≤ length xs
  pub last : part_start 0 es (length es) ≡ length xs
  pub small : All IsPlace xs
