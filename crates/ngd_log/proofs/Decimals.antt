-- Decimal digits, two at a time.
use Rattle.std.proofs.Common.{◌≡◌, ℕ, List, ◌+◌, ◌/◌, ◌%◌, ◌^◌, ◌<◌, ◌≤◌, [], ◌∷◌, ◌++◌, ap, refl, ◌∙◌, append_assoc, arith}
use Rattle.std.specs.Fmt.{decimal}
use Rattle.std.proofs.lemmas.Fmt.{decimal_digit, decimal_step}

pub decimal_of_two : (n : ℕ) → 10 ≤ n → n < 100 → decimal n ≡ (48 + n / 10) ∷ (48 + n % 10) ∷ []
decimal_of_two n least small = let tens : n / 10 < 10 = omega arith in
    decimal_step n least (omega arith) ∙ ap (λ (ds : List ℕ). ds ++ (48 + n % 10) ∷ []) (decimal_digit (n / 10) tens)

tens_of : (n : ℕ) → n / 10 % 10 ≡ n % 100 / 10
tens_of n = omega arith

units_of : (n : ℕ) → n % 10 ≡ n % 100 % 10
units_of n = omega arith

hundreds_of : (n : ℕ) → n / 10 / 10 ≡ n / 100
hundreds_of n = omega arith

pub decimal_by_twos : (n : ℕ) → 100 ≤ n → n < 2 ^ 64 → decimal n ≡ decimal (n / 100) ++ (48 + n % 100 / 10) ∷ (48 + n % 100 % 10) ∷ []
decimal_by_twos n least fits = let few : 10 ≤ n / 10 = omega arith in let below : n / 10 < 2 ^ 64 = omega arith in
    let first : decimal n ≡ decimal (n / 10) ++ (48 + n % 10) ∷ [] = decimal_step n (omega arith) fits in
    let second : decimal (n / 10) ≡ decimal (n / 10 / 10) ++ (48 + n / 10 % 10) ∷ [] = decimal_step (n / 10) few below in
    rw (first, second, append_assoc, hundreds_of n, tens_of n, units_of n) refl

-- a line with a number's digits but the last two, and then these
pub appended_by_twos : (before line : List ℕ) (n : ℕ) → line ≡ before ++ decimal (n / 100) → 100 ≤ n → n < 2 ^ 64
    → line ++ (48 + n % 100 / 10) ∷ (48 + n % 100 % 10) ∷ [] ≡ before ++ decimal n
appended_by_twos before line n is_line least fits = rw (is_line, decimal_by_twos n least fits, append_assoc) refl
