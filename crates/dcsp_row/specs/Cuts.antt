-- Sets of numbers that are one number, or all below one, or all others than these.
use Rattle.std.specs.Prelude.{ℕ, ◌+◌, ◌^◌, ℤ, Bool, not, int_lt, if◌then◌else◌}
use Rattle.std.specs.Ordering.{int_eq}
use Rattle.dcsp_meaning.specs.Sums.{widest}
use Rattle.dcsp_row.specs.declared.cut.Part.{Part}
use Rattle.dcsp_row.specs.declared.cut.Part.TheVariants.{Only, Below}
use Rattle.dcsp_row.specs.declared.cut.Cut.{Cut}

-- whether a number is that one, or is below
abbrev pub is_of : Part → ℤ → Bool
is_of (Only value) x = int_eq x value
is_of (Below bound) x = int_lt x bound

-- whether a number is of the part, or is outside it
abbrev pub is_in : Cut → ℤ → Bool
is_in cut x = if cut.outside then not (is_of cut.part x) else is_of cut.part x

-- the number at which a part ends
abbrev pub number_of : Part → ℤ
number_of (Only value) = value
number_of (Below bound) = bound

-- the greatest absolute value of such a number
abbrev pub farthest : ℕ
farthest = widest + 2 ^ 66
