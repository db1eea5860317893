-- Sums of products over whole numbers without bounds.
use Rattle.std.specs.Prelude.{ℕ, ◌+◌, ◌*◌, ◌^◌, ℤ, pos, ◌+ℤ◌, ◌*ℤ◌, Bool, not, List, [], ◌∷◌, int_le, unsigned_abs, sum_by, zip}
use Rattle.std.specs.Ordering.{int_eq}
use Rattle.dcsp_meaning.specs.declared.linear.Rel.{Rel}
use Rattle.dcsp_meaning.specs.declared.linear.Rel.TheVariants.{Equal, AtMost, Differ}

-- the sum of each pair's coefficient times its value
abbrev pub sum_of : List (ℤ × ℤ) → ℤ
sum_of [] = pos 0
sum_of (pair ∷ pairs) = (pair.0 *ℤ pair.1) +ℤ sum_of pairs

-- whether the first number is equal to, is at most, differs from the second
abbrev pub stands : Rel → ℤ → ℤ → Bool
stands Equal a b = int_eq a b
stands AtMost a b = int_le a b
stands Differ a b = not (int_eq a b)

-- the absolute value of a pair's product
abbrev pub size_of : ℤ × ℤ → ℕ
size_of pair = unsigned_abs pair.0 * unsigned_abs pair.1

-- the sum of the products' absolute values, and of the total's
abbrev pub sizes_of : List (ℤ × ℤ) → ℤ → ℕ
sizes_of pairs total = sum_by size_of pairs + unsigned_abs total

-- the greatest absolute value of the product of a coefficient and a value, which is at most so great
abbrev pub greatest_size : ℤ × ℕ → ℕ
greatest_size term = unsigned_abs term.0 * term.1

-- the width of a sum: the greatest absolute values of its products, and of its total, added up
abbrev pub width_of : List ℤ → List ℕ → ℕ → ℕ
width_of coefs greatest total = sum_by greatest_size (zip coefs greatest) + total

-- the greatest width that is allowed: 128 bits hold such a sum, and each part of it
abbrev pub widest : ℕ
widest = 2 ^ 126
