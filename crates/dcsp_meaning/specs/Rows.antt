-- The rows of a table, which is written as one list, row after row, and whether one of them is a given row.
use Rattle.std.specs.Prelude.{◌≡◌, ℕ, zero, suc, ◌+◌, ◌*◌, ◌/◌, ◌%◌, ◌<◌, ◌≤◌, ◌==◌, ℤ, Bool, true, false, ◌&&◌, ◌||◌, List, [], ◌∷◌, length, nat_lt, IsTrue, ◌↔◌}
use Rattle.std.specs.Fork.{slice_chunk}
use Rattle.std.specs.Ordering.{int_eq}
use Rattle.dcsp_meaning.specs.Words.{argument}

-- whether so many entries are a table of whole rows that are so long: of a row without entries no table tells how often it has it
abbrev pub is_table : ℕ → ℕ → Bool
is_table width entries = nat_lt 0 width && (entries % width == 0)

-- whether the row stands in the table from this entry on, where two entries are equal by this test
abbrev pub stands_at : (ℤ → ℤ → Bool) → List ℤ → List ℤ → ℕ → Bool
stands_at equal [] table entry = true
stands_at equal (x ∷ row) table entry = equal x (argument table entry) && stands_at equal row table (entry + 1)

-- whether it is one of the first so many rows of the table
abbrev pub is_among_rows : (ℤ → ℤ → Bool) → List ℤ → List ℤ → ℕ → Bool
is_among_rows equal row table zero = false
is_among_rows equal row table (suc count) = is_among_rows equal row table count || stands_at equal row table (count * length row)

-- whether some row of the table is this one
abbrev pub has_row : (ℤ → ℤ → Bool) → List ℤ → List ℤ → Bool
has_row equal row table = is_among_rows equal row table (length table / length row)

-- the row of this number, counted from 0, is a whole one, and it is this one
pub record IsRow (row table : List ℤ) (number : ℕ) : Type 0 where
  pub whole : number * length row + length row ≤ length table
  pub equal : slice_chunk table (length row) number ≡ row

-- A table has a row exactly where the row has an entry and is one of the pieces, as long as it is, into which the table is cut.
abbrev pub RowsAreThePieces : Type 0
RowsAreThePieces = (row table : List ℤ) → 0 < length row → IsTrue (has_row int_eq row table) ↔ ((number : ℕ) × IsRow row table number)
