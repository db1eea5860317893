-- Division truncates towards zero, and this determines the quotient.
use Rattle.std.proofs.Common.{◌≡◌, ◌≢◌, ℕ, zero, suc, ◌+◌, ◌*◌, ◌<◌, ◌%◌, ℤ, pos, negsuc, neg_ℤ, ◌-ℤ◌, ◌*ℤ◌, ◌≤ℤ◌, int_div, int_rem, refl, ap, arith}
use Rattle.std.specs.Prelude.{unsigned_abs}
use Rattle.std.proofs.Math.Nat.{zero-mod}
use borrow.Author.Differences.{up, down}
use Rattle.std.proofs.lemmas.Int.{ints, quot-rem, rem_below, unsigned_abs-mul}
use Rattle.dcsp_meaning.specs.Division.{IsDivided, DividesTowardsZero, HasOneQuotient}

-- what is not 0 has an absolute value above 0
pub size_above : (b : ℤ) → b ≢ pos 0 → 0 < unsigned_abs b
size_above (pos zero) h = absurd (h refl)
size_above (pos (suc n)) h = omega arith
size_above (negsuc n) h = omega arith

-- the remainder of a number that is not negative
pub rest_above : (a b : ℤ) → pos 0 ≤ℤ a → pos 0 ≤ℤ int_rem a b
rest_above (pos a) b h = omega (arith, ints)
rest_above (negsuc a) b h = absurd (omega (arith, ints))

-- a negated natural number is at most 0
pub negated_below : (n : ℕ) → neg_ℤ (pos n) ≤ℤ pos 0
negated_below n = omega (arith, ints)

-- the remainder of a number that is not above 0
pub rest_below : (a b : ℤ) → a ≤ℤ pos 0 → int_rem a b ≤ℤ pos 0
rest_below (pos zero) b h = omega (arith, ints, zero-mod (unsigned_abs b))
rest_below (pos (suc a)) b h = absurd (omega (arith, ints))
rest_below (negsuc a) b h = negated_below (suc a % unsigned_abs b)

pub divides : DividesTowardsZero
divides a b h = record {
  parts = omega (arith, ints, quot-rem a b);
  small = rem_below a b (size_above b h);
  above = rest_above a b;
  below = rest_below a b;
}

-- the absolute value of a product that is smaller than its first factor
pub no_multiple : (b d : ℤ) → unsigned_abs (b *ℤ d) < unsigned_abs b → d ≡ pos 0
no_multiple b (pos zero) h = refl
no_multiple b (pos (suc n)) h = absurd (omega (arith, unsigned_abs-mul b (pos (suc n)), h))
no_multiple b (negsuc n) h = absurd (omega (arith, unsigned_abs-mul b (negsuc n), h))

-- two rests of one dividend differ by less than the divisor
pub rests_close : (a b r s : ℤ) → unsigned_abs r < unsigned_abs b → unsigned_abs s < unsigned_abs b → (pos 0 ≤ℤ a → pos 0 ≤ℤ r) → (a ≤ℤ pos 0 → r ≤ℤ pos 0) → (pos 0 ≤ℤ a → pos 0 ≤ℤ s) → (a ≤ℤ pos 0 → s ≤ℤ pos 0) → unsigned_abs (r -ℤ s) < unsigned_abs b
rests_close (pos a) b r s small_r small_s above_r below_r above_s below_s =
    let r_above : pos 0 ≤ℤ r = above_r (omega (arith, ints)) in
    let s_above : pos 0 ≤ℤ s = above_s (omega (arith, ints)) in
    omega (arith, ints)
rests_close (negsuc a) b r s small_r small_s above_r below_r above_s below_s =
    let r_below : r ≤ℤ pos 0 = below_r (omega (arith, ints)) in
    let s_below : s ≤ℤ pos 0 = below_s (omega (arith, ints)) in
    omega (arith, ints)

-- a product with a difference
pub times_difference : (b d q p : ℤ) → d ≡ q -ℤ p → b *ℤ d ≡ (b *ℤ q) -ℤ (b *ℤ p)
times_difference b d q p is =
    let sums : up d + down q + up p ≡ down d + up q + down p = omega (arith, ints) in
    let above = ap (λ n. up b * n) sums in
    let below = ap (λ n. down b * n) sums in
    omega (arith, ints, above, below)

-- two divisions of one number have one quotient
pub one_quotient : (a b q r p s : ℤ) → IsDivided a b q r → IsDivided a b p s → q ≡ p
one_quotient a b q r p s d e =
    let close = rests_close a b s r e.small d.small e.above e.below d.above d.below in
    let multiple : b *ℤ (q -ℤ p) ≡ s -ℤ r = omega (arith, ints, times_difference b (q -ℤ p) q p refl, d.parts, e.parts) in
    let none = no_multiple b (q -ℤ p) (rw multiple close) in
    omega (arith, ints, none)

-- a rest is smaller than the divisor, which then is not 0
pub divisor_not_zero : (a b q r : ℤ) → IsDivided a b q r → b ≢ pos 0
divisor_not_zero a b q r d is_zero = absurd (omega (arith, d.small, ap unsigned_abs is_zero))

pub has_one : HasOneQuotient
has_one a b q r d = one_quotient a b q r (int_div a b) (int_rem a b) d (divides a b (divisor_not_zero a b q r d))
