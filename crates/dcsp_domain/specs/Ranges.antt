-- The numbers from one to another.
use Rattle.std.specs.Prelude.{ℕ, zero, suc, ℤ, pos, negsuc, ◌+ℤ◌, ◌-ℤ◌, List, [], ◌∷◌, ◌++◌}

-- the number itself, or 0 where it is negative
abbrev pub at_least_zero : ℤ → ℕ
at_least_zero (pos n) = n
at_least_zero (negsuc n) = 0

-- how many numbers there are from low to high
abbrev pub count_between : ℤ → ℤ → ℕ
count_between low high = at_least_zero ((high -ℤ low) +ℤ pos 1)

-- the first numbers from low on, as many as the count says
abbrev pub numbers_from : ℤ → ℕ → List ℤ
numbers_from low zero = []
numbers_from low (suc count) = numbers_from low count ++ (low +ℤ pos count) ∷ []

-- the numbers from low to high; none where low is above high
abbrev pub numbers_between : ℤ → ℤ → List ℤ
numbers_between low high = numbers_from low (count_between low high)
