-- How great quotients are.
use Rattle.std.proofs.Common.{◌≡◌, ℕ, zero, suc, ◌/◌, ◌≤◌, ℤ, pos, negsuc, neg_ℤ, int_div, refl}
use Rattle.std.specs.Prelude.{unsigned_abs}
use Rattle.std.proofs.Math.Nat.{div-le_self}

-- the absolute value of a negated natural number
pub unsigned_abs-neg : (n : ℕ) → unsigned_abs (neg_ℤ (pos n)) ≡ n
unsigned_abs-neg zero = refl
unsigned_abs-neg (suc n) = refl

-- a quotient is no greater than its dividend
pub quotient-le : (a b : ℤ) → unsigned_abs (int_div a b) ≤ unsigned_abs a
quotient-le (pos a) (pos b) = div-le_self a b
quotient-le (pos a) (negsuc b) = rw (unsigned_abs-neg (a / suc b)) (div-le_self a (suc b))
quotient-le (negsuc a) (pos b) = rw (unsigned_abs-neg (suc a / b)) (div-le_self (suc a) b)
quotient-le (negsuc a) (negsuc b) = div-le_self (suc a) (suc b)
