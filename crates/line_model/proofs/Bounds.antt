-- The bound that is told is that of the problem.
use Rattle.std.proofs.Common.{◌≡◌, ℕ, ◌<◌, ◌≤◌, ◌^◌, Bool, true, false, Option, Some, None, refl, ap, arith}
use Rattle.std.specs.Prelude.{nat_lt, if◌then◌else◌}
use Rattle.std.specs.Option.{SomeIff}
use Rattle.std.proofs.lemmas.Bool.Decides.{nat_tests}
use Rattle.line_model.specs.BoundReports.{in_128_bits}

-- a number that is there exactly where it has 128 bits
pub fits_is : (o : Option ℕ) (n : ℕ) → SomeIff o (n < 2 ^ 128) n → o ≡ in_128_bits n
fits_is None n h = by_test (nat_lt n (2 ^ 128)) refl where
  by_test : (b : Bool) → nat_lt n (2 ^ 128) ≡ b → None ≡ (if b then Some n else None)
  by_test true e = absurd (h (let below : n < 2 ^ 128 = grind (arith, nat_tests) in below))
  by_test false e = refl
fits_is (Some x) n h = by_test (nat_lt n (2 ^ 128)) refl where
  by_test : (b : Bool) → nat_lt n (2 ^ 128) ≡ b → Some x ≡ (if b then Some n else None)
  by_test true e = ap (λ z. Some z) h.1
  by_test false e = absurd (let below = h.0 in let above : 2 ^ 128 ≤ n = grind (arith, nat_tests) in omega arith)
