-- Marks of places, as a span or as bits.
use Rattle.std.specs.Prelude.{◌≡◌, ℕ, Bool, true, false, not, ◌||◌, length, slice_index_or, ⊤}
use Rattle.dcsp_row.specs.declared.marks.Marks.{Marks}
use Rattle.dcsp_row.specs.declared.marks.Marks.TheVariants.{Span, Row}
use Rattle.dcsp_row.specs.Spans.{is_within}

-- whether a place is marked
abbrev pub is_marked : Marks → ℕ → Bool
is_marked (Span span) k = is_within span k
is_marked (Row row) k = slice_index_or row k false

-- they are a row of this size, or a span
abbrev pub FitsSize : ℕ → Marks → Type 0
FitsSize size (Span span) = ⊤
FitsSize size (Row row) = length row ≡ size

-- whether they are bits
abbrev pub is_row : Marks → Bool
is_row (Span span) = false
is_row (Row row) = true

-- whether they can be put in the place of these: a span alone has no room for bits
abbrev pub has_room_for : Marks → Marks → Bool
has_room_for own other = is_row own || not (is_row other)
