-- Reading literals from left to right. What is read is a value and the bytes after it; what is no literal gives none.
use Rattle.std.specs.Prelude.{ℕ, ◌&&◌, List, [], ◌∷◌, Option, Some, None, ℤ, pos, neg_ℤ, nat_lt, nat_le, ◌==◌, if◌then◌else◌}
use Rattle.std.specs.Str.{byte}
use Rattle.dcsp_common.specs.Reading.{◌>>=◌, number_at}

-- what stands after this byte
unfoldable pub after_byte : ℕ → List ℕ → Option (List ℕ)
after_byte c [] = None
after_byte c (b ∷ bytes) = if b == c then Some bytes else None

-- a variable's number, and what stands after the space behind it
unfoldable pub spaced : ℕ × List ℕ → Option (ℕ × List ℕ)
spaced n = if nat_lt 0 n.0 && nat_le n.0 4096 then after_byte (byte " ") n.1 >>= (λ rest. Some (n.0, rest)) else None

-- a variable and a space
unfoldable pub variable_at : List ℕ → Option (ℕ × List ℕ)
variable_at bytes = number_at bytes >>= spaced

-- the variable's negation
unfoldable pub negated : ℕ × List ℕ → Option (ℤ × List ℕ)
negated x = Some (neg_ℤ (pos x.0), x.1)

-- the variable itself
unfoldable pub itself : ℕ × List ℕ → Option (ℤ × List ℕ)
itself x = Some (pos x.0, x.1)

-- a literal and a space
unfoldable pub literal_at : List ℕ → Option (ℤ × List ℕ)
literal_at [] = None
literal_at (b ∷ bytes) = if b == byte "-" then variable_at bytes >>= negated else variable_at (b ∷ bytes) >>= itself

-- what stands after the end of a clause's line
unfoldable pub after_end : List ℕ → Option (List ℕ)
after_end bytes = after_byte (byte "0") bytes >>= after_byte 10
