-- Tables of values by variable.
use Rattle.std.specs.Prelude.{◌≡◌, ℕ, ℤ, List, Option, None, slice_index_or}
use Rattle.dcsp_defs.specs.Pairs.{value_at}
use Rattle.dcsp_defs.specs.Csp.{Nogood}

-- no variable has a value
abbrev pub IsClear : List (Option ℤ) → Type 0
IsClear values = (var : ℕ) → slice_index_or values var None ≡ None

-- each variable has the value that the pairs give it
abbrev pub Gives : List (Option ℤ) → Nogood → Type 0
Gives values pairs = (var : ℕ) → slice_index_or values var None ≡ value_at pairs var

-- at most the variables of these pairs have values
abbrev pub HoldsBeside : List (Option ℤ) → Nogood → Type 0
HoldsBeside values pairs = (var : ℕ) → value_at pairs var ≡ None → slice_index_or values var None ≡ None
