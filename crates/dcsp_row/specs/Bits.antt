-- Marks as bits.
use Rattle.std.specs.Prelude.{ℕ, ◌/◌, ◌%◌, ◌==◌, Bool, List, map, slice_index_or}
use Rattle.std.specs.Int.{bit_at}
use Rattle.std.specs.List.{range_with_len}

-- whether the bit of a place is set, where each word holds those of 64 places
abbrev pub has_bit : List ℕ → ℕ → Bool
has_bit words place = bit_at (slice_index_or words (place / 64) 0) (place % 64) == 1

-- the marks of so many places
abbrev pub marks_of : ℕ → List ℕ → List Bool
marks_of size words = map (has_bit words) (range_with_len 0 size)
