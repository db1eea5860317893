-- How literals are kept: variable v at place 4095 + v, its negation at 4096 - v.
use Rattle.std.specs.Prelude.{ℕ, ◌+◌, ◌-◌, ◌≤◌, ◌^◌, ℤ, pos, negsuc, nat_lt, if◌then◌else◌, List, length}
use Rattle.std.specs.List.{Contains}

-- the literal at a place
abbrev pub number_at : ℕ → ℤ
number_at x = if nat_lt x 4096 then negsuc (4095 - x) else pos (x - 4095)

-- the place of a literal
abbrev pub place_of : ℤ → ℕ
place_of (pos n) = 4095 + n
place_of (negsuc n) = 4095 - n

-- so many places there are, two for each variable
abbrev pub places : ℕ
places = 8192

-- this is a place
abbrev pub IsPlace : ℕ → Type 0
IsPlace x = x ≤ 8191

-- each clause has places alone
abbrev pub ArePlaces : List (List ℕ) → Type 0
ArePlaces clauses = (clause : List ℕ) (x : ℕ) → Contains clauses clause → Contains clause x → IsPlace x

-- clauses of places, no more than a list of clauses may have
pub record AreStored (clauses : List (List ℕ)) : Type 0 where
  pub places : ArePlaces clauses
  pub count : length clauses ≤ 2 ^ 32
