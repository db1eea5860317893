-- Words on lists and functions that the definitions share.
use Rattle.std.specs.Prelude.{◌≡◌, ℕ, zero, suc, ◌+◌, ◌<◌, Bool, false, cond, ◌⊎◌, List, [], ◌∷◌, ◌++◌, ◌==◌, Option, Some, None, ℤ, ◌<ℤ◌}
use Rattle.std.specs.Ordering.{int_eq}

-- x is an item of the list
abbrev pub In : {X : Type 0} → X → List X → Type 0
In x [] = ⊥
In x (y ∷ ys) = (x ≡ y) ⊎ In x ys

-- each number is below all that come after it
abbrev pub IsRising : List ℕ → Type 0
IsRising [] = Unit {0}
IsRising (x ∷ xs) = ((y : ℕ) → In y xs → x < y) × IsRising xs

-- the same of integers
abbrev pub IsRisingIntegers : List ℤ → Type 0
IsRisingIntegers [] = Unit {0}
IsRisingIntegers (x ∷ xs) = ((y : ℤ) → In y xs → x <ℤ y) × IsRisingIntegers xs

-- the numbers below n, rising
abbrev pub below : ℕ → List ℕ
below zero = []
below (suc n) = below n ++ n ∷ []

-- f 0 + .. + f (n - 1)
abbrev pub sum_below : (ℕ → ℕ) → ℕ → ℕ
sum_below f zero = 0
sum_below f (suc n) = sum_below f n + f n

-- f with x at k
abbrev pub update : {X : Type 0} → (ℕ → X) → ℕ → X → ℕ → X
update f k x j = cond (j == k) x (f j)

-- whether there is a value, and it is this one
abbrev pub is_value : Option ℤ → ℤ → Bool
is_value None w = false
is_value (Some v) w = int_eq v w

-- whether there is a number, and it is this one
abbrev pub is_number : Option ℕ → ℕ → Bool
is_number None k = false
is_number (Some n) k = n == k
