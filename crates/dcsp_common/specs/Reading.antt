-- Reading a number from the front of a text, on lists: it and the bytes after it, or none.
use Rattle.std.specs.Prelude.{◌≡◌, ℕ, ◌+◌, ◌-◌, ◌*◌, ◌^◌, Bool, false, List, [], ◌∷◌, Option, Some, None, nat_lt, ◌==◌, if◌then◌else◌}
use Rattle.std.specs.Str.{byte}
use Rattle.std.specs.Char.{is_ascii_digit}

infixl 10 ◌>>=◌
abbrev pub ◌>>=◌ : {A B : Type 0} → Option A → (A → Option B) → Option B
None >>= f = None
(Some x) >>= f = f x

-- what a function returned, seen by `view`, is what reading gives
abbrev pub Reads : {X Y : Type 0} → (X → Y) → Option X → Option Y → Type 0
Reads view None read = read ≡ None
Reads view (Some x) read = read ≡ Some (view x)

-- the digits at the front, after those of the number so far, as long as the number has 64 bits
unfoldable pub digits_at : ℕ → List ℕ → Option (ℕ × List ℕ)
digits_at number [] = Some (number, [])
digits_at number (b ∷ bytes) =
    if is_ascii_digit b
    then (if nat_lt (number * 10 + (b - 48)) (2 ^ 64) then digits_at (number * 10 + (b - 48)) bytes else None)
    else Some (number, b ∷ bytes)

-- whether a digit is at the front
abbrev pub begins_with_digit : List ℕ → Bool
begins_with_digit [] = false
begins_with_digit (b ∷ bytes) = is_ascii_digit b

-- a number of 64 bits: `0`, or digits that do not begin with `0`
unfoldable pub number_at : List ℕ → Option (ℕ × List ℕ)
number_at [] = None
number_at (b ∷ bytes) =
    if b == byte "0" then (if begins_with_digit bytes then None else Some (0, bytes))
    else (if is_ascii_digit b then digits_at 0 (b ∷ bytes) else None)
