-- Lists of numbers that stand one after another in one list.
use Rattle.std.specs.Prelude.{◌≡◌, ℕ, ◌+◌, ◌-◌, ◌<◌, ◌≤◌, List, map, take, drop, length, slice_index_or}
use Rattle.dcsp_defs.specs.Words.{below}

-- the items from one place on, before another
abbrev pub piece : List ℕ → ℕ → ℕ → List ℕ
piece items start end = take (end - start) (drop start items)

-- the pieces between each two neighbouring places
abbrev pub pieces : List ℕ → List ℕ → List (List ℕ)
pieces items places = map (λ k. piece items (slice_index_or places k 0) (slice_index_or places (k + 1) 0)) (below (length places - 1))

-- the places do not fall, and the last one is the end of the items
pub record AreCuts (items places : List ℕ) : Type 0 where
  pub some : 0 < length places
  pub rising : (k : ℕ) → k + 1 < length places → slice_index_or places k 0 ≤ slice_index_or places (k + 1) 0
  pub inside : (k : ℕ) → k < length places → slice_index_or places k 0 ≤ length items
  pub end : slice_index_or places (length places - 1) 0 ≡ length items
