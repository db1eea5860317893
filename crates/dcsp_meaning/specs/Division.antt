-- Division of whole numbers that truncates towards zero.
use Rattle.std.specs.Prelude.{◌≡◌, ◌≢◌, ◌<◌, ℤ, pos, ◌+ℤ◌, ◌*ℤ◌, ◌≤ℤ◌, int_div, int_rem, unsigned_abs}

-- a is b times the quotient and a rest, which is smaller than b, and is 0 or has the sign of a
pub record IsDivided (a b quotient rest : ℤ) : Type 0 where
  pub parts : a ≡ (b *ℤ quotient) +ℤ rest
  pub small : unsigned_abs rest < unsigned_abs b
  pub above : pos 0 ≤ℤ a → pos 0 ≤ℤ rest
  pub below : a ≤ℤ pos 0 → rest ≤ℤ pos 0

-- a number divided by another that is not 0 has this quotient and rest
abbrev pub DividesTowardsZero : Type 0
DividesTowardsZero = (a b : ℤ) → b ≢ pos 0 → IsDivided a b (int_div a b) (int_rem a b)

-- no other quotient will do
abbrev pub HasOneQuotient : Type 0
HasOneQuotient = (a b quotient rest : ℤ) → IsDivided a b quotient rest → quotient ≡ int_div a b
