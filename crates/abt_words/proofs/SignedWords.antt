-- Words that are numbers with or without a sign.
use Rattle.std.proofs.Common.{◌≡◌, ℕ, suc, ◌<◌, List, [], ◌∷◌, length, Result, Ok, refl, ap, ◌∙◌, subst, arith, decimal}
use Rattle.std.specs.Prelude.{ℤ, pos, negsuc, neg_ℤ, FitsSigned}
use Rattle.std.specs.Int.{w64}
use Rattle.std.specs.Fmt.{signed_decimal}
use Rattle.std.specs.Str.Parse.{AllDigits, ParsesSigned, digits_value, signed_digits_value}
use Rattle.std.proofs.lemmas.Bool.{ne_eqb}
use Rattle.std.proofs.lemmas.Fmt.{parse-signed_decimal, decimal_is_IsNumeral}
use Rattle.std.proofs.lemmas.Result.{Ok-from_Ok_iff}
use Rattle.std.proofs.lemmas.Str.Parse.{numerals_by_value, tells_digits, parse_signed_minus, digit_from_value}

-- the number that a sign and digits write
abbrev pub signed_number : List ℕ → ℤ
signed_number word = signed_digits_value 10 word

-- digits have no sign
of_digits : (ds : List ℕ) → AllDigits 10 ds → 0 < length ds → signed_number ds ≡ pos (digits_value 10 ds)
of_digits [] d some = absurd (omega arith)
of_digits (c ∷ cs) d some =
    let k = digit_from_value c d.0 in
    rw (ne_eqb c 45 (λ e. omega (arith, k, e)), ne_eqb c 43 (λ e. omega (arith, k, e))) refl

pub signed_number_back : (z : ℤ) → FitsSigned w64 z → signed_number (signed_decimal z) ≡ z
signed_number_back (pos n) fits =
    let k = decimal_is_IsNumeral n (omega (arith, fits.sfits)) in
    of_digits (decimal n) k.0.1 k.0.0 ∙ ap pos k.1
signed_number_back (negsuc n) fits = ap (λ m. neg_ℤ (pos m)) (decimal_is_IsNumeral (suc n) (omega (arith, fits.sfits))).1

-- what a number writes is read as that number
pub parse_signed : {E : Type 0} → (z : ℤ) (word : List ℕ) (r : Result ℤ E) → FitsSigned w64 z → word ≡ signed_decimal z → ParsesSigned w64 10 word r → r ≡ Ok z
parse_signed (pos n) word r fits is h = parse-signed_decimal w64 (pos n) word r fits (omega (arith, fits.sfits)) is h
parse_signed (negsuc n) word r fits is h =
    let k = decimal_is_IsNumeral (suc n) (omega (arith, fits.sfits)) in
    let read = parse_signed_minus (numerals_by_value _ tells_digits) w64 (45 ∷ decimal (suc n)) r (subst (λ (l : List ℕ). ParsesSigned w64 10 l r) is h) refl in
    Ok-from_Ok_iff r _ _ read (k.0.1, k.0.0, omega (arith, k.1, fits.sfits)) ∙ ap (λ m. Ok (neg_ℤ (pos m))) k.1

pub that_integer : {E : Type 0} → (y z : ℤ) → ◌≡◌ {A = Result ℤ E} (Ok y) (Ok z) → y ≡ z
that_integer y z h = cc
