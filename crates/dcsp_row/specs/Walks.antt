-- Walks over the marked places of a row.
use Rattle.std.specs.Prelude.{◌≡◌, ℕ, ◌+◌, ◌*◌, ◌<◌, ◌≤◌, ◌==◌, ◌&&◌, Bool, false, List, length, nat_le, slice_index_or, true}
use Rattle.std.specs.Int.{bit_at}
use Rattle.dcsp_row.specs.declared.walk.Walk.{Walk}

-- the bits of a walk are those of the marked places of its block that are not passed
pub record IsOn (row : List Bool) (w : Walk) : Type 0 where
  pub block : ℕ
  pub first : w.first ≡ block * 64
  pub near : w.first ≤ length row
  pub inside : w.first ≤ w.from
  pub passed : w.from ≤ w.first + 64
  pub marks : (bit : ℕ) → bit < 64 → (bit_at w.bits bit == 1) ≡ (nat_le w.from (w.first + bit) && slice_index_or row (w.first + bit) false)

-- no place from one on that stands before another is marked
abbrev pub NoneBetween : List Bool → ℕ → ℕ → Type 0
NoneBetween row from to = (k : ℕ) → from ≤ k → k < to → k < length row → slice_index_or row k false ≡ false

-- a place of the block is marked
abbrev pub HasMarkIn : List Bool → ℕ → Type 0
HasMarkIn row block = (bit : ℕ) × (bit < 64) × (slice_index_or row (block * 64 + bit) false ≡ true)
