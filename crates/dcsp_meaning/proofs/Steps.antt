-- One product further on.
use Rattle.std.proofs.Common.{◌≡◌, ℕ, ◌+◌, ◌*◌, ◌<◌, ◌≤◌, ℤ, pos, ◌+ℤ◌, ◌*ℤ◌, List, length, get_or, drop, sum_by, arith, zip, ap, ◌∙◌, Option, Some, None, if◌then◌else◌, nat_le}
use Rattle.std.specs.Prelude.{unsigned_abs}
use Rattle.std.proofs.lemmas.List.{drop_more, at_drop_all}
use Rattle.std.proofs.lemmas.Slice.Zip.{length-zip, get_or-zip}
use Rattle.std.proofs.lemmas.Bool.Decides.{nat_tests}
use Rattle.std.proofs.lemmas.List.Sums.{sum_by-drop_more}
use Rattle.std.proofs.lemmas.Int.{ints, unsigned_abs-mul}
use Rattle.dcsp_meaning.specs.Sums.{sum_of, greatest_size}

-- the sum of the pairs from a place on
pub sum_of-drop : (pairs : List (ℤ × ℤ)) (k : ℕ) → k < length pairs → sum_of (drop k pairs) ≡ ((get_or pairs k (pos 0, pos 0)).0 *ℤ (get_or pairs k (pos 0, pos 0)).1) +ℤ sum_of (drop (k + 1) pairs)
sum_of-drop pairs k h = rw (drop_more pairs k (pos 0, pos 0) h)

-- an absolute value of a sum is at most the sum of the absolute values
pub unsigned_abs-add : (a b : ℤ) → unsigned_abs (a +ℤ b) ≤ unsigned_abs a + unsigned_abs b
unsigned_abs-add a b = omega (arith, ints)

-- what the loop over the products keeps, one turn on
pub next_turn : (total x y r rest rest' all : ℤ) (w w' bound : ℕ) → r ≡ total +ℤ (x *ℤ y) → rest ≡ (x *ℤ y) +ℤ rest' → w ≡ unsigned_abs x * unsigned_abs y + w' → total +ℤ rest ≡ all → unsigned_abs total + w ≤ bound → (r +ℤ rest' ≡ all) × (unsigned_abs r + w' ≤ bound)
next_turn total x y r rest rest' all w w' bound said d e held fits =
    (omega (arith, ints), rw said (omega (arith, unsigned_abs-add total (x *ℤ y), unsigned_abs-mul x y)))

-- the greatest sizes of the terms from a place on
pub greatest-drop : (coefs : List ℤ) (greatest : List ℕ) (k : ℕ) → k < length coefs → k < length greatest → sum_by greatest_size (drop k (zip coefs greatest)) ≡ unsigned_abs (get_or coefs k (pos 0)) * get_or greatest k 0 + sum_by greatest_size (drop (k + 1) (zip coefs greatest))
greatest-drop coefs greatest k h i =
    let within : k < length (zip coefs greatest) = omega (arith, length-zip coefs greatest) in
    sum_by-drop_more greatest_size (zip coefs greatest) k (pos 0, 0) within ∙ ap (λ pair. greatest_size pair + sum_by greatest_size (drop (k + 1) (zip coefs greatest))) (get_or-zip coefs greatest k (pos 0, 0) h i)

-- nothing stands past the end
pub greatest-end : (coefs : List ℤ) (greatest : List ℕ) (k : ℕ) → length coefs ≤ k → sum_by greatest_size (drop k (zip coefs greatest)) ≡ 0
greatest-end coefs greatest k past = at_drop_all (sum_by greatest_size) (zip coefs greatest) k (omega (arith, length-zip coefs greatest))

-- the answer where the width is at most the bound
pub told_narrow : (width bound : ℕ) (narrow : width ≤ bound) → ◌≡◌ {A = Option ℕ} (Some width) (if nat_le width bound then Some width else None)
told_narrow width bound narrow = grind (arith, nat_tests)

-- the answer where the width is above the bound
pub told_wide : (width bound : ℕ) (wide : bound < width) → ◌≡◌ {A = Option ℕ} None (if nat_le width bound then Some width else None)
told_wide width bound wide = grind (arith, nat_tests)
