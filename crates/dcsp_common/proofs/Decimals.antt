-- A number that is read is the one that was written, and what was written is read again.
use Rattle.std.proofs.Common.{◌≡◌, ℕ, zero, suc, ◌+◌, ◌-◌, ◌*◌, ◌^◌, ◌<◌, ◌≤◌, true, false, cond, eqb, ltb, List, [], ◌∷◌, ◌++◌, length, get_or, Some, None, inl, inr, refl, ap, ◌∙◌, arith, rules}
use Rattle.std.specs.Prelude.{decimal}
use Rattle.std.specs.Str.{all_ascii_digits}
use Rattle.std.specs.Char.{is_ascii_digit}
use Rattle.std.proofs.lemmas.Str.Parse.{IsNumeralModel, numerals_by_fold}
use Rattle.std.proofs.lemmas.Fmt.{decimal_digit, digits_decimal, digits_value-decimal, first_decimal, decimal_nonempty, decimal-digits_value}
use Rattle.std.proofs.lemmas.Bool.{and_from, and_parts, eqb-true, eqb-false, ne_eqb, ltb-true, lt-ltb}
use Rattle.dcsp_common.specs.Reading.{begins_with_digit, digits_at, number_at}
use Rattle.dcsp_common.proofs.Chosen.{chosen, some_is}

-- the number that digits write after those of n
abbrev pub digits_from : ℕ → List ℕ → ℕ
digits_from n [] = n
digits_from n (c ∷ cs) = digits_from (n * 10 + (c - 48)) cs

-- each byte is a digit
abbrev pub AreDigits : List ℕ → Type 0
AreDigits ds = all_ascii_digits ds ≡ true

-- the words of this file are those of the standard library
own : IsNumeralModel AreDigits (digits_from 0)
own = numerals_by_fold _ (search rules) digits_from (search rules)

-- more digits write no lesser number
grows : (n : ℕ) (ds : List ℕ) → n ≤ digits_from n ds
grows n [] = omega arith
grows n (c ∷ cs) = let h = grows (n * 10 + (c - 48)) cs in omega arith

-- digits are read again, where no digit follows
digits_again : (n : ℕ) (ds rest : List ℕ) → AreDigits ds → digits_from n ds < 2 ^ 64 → begins_with_digit rest ≡ false → digits_at n (ds ++ rest) ≡ Some (digits_from n ds, rest)
unfolding digits_at
digits_again n [] [] h small stop = refl
digits_again n [] (b ∷ rest) h small stop = rw stop refl
digits_again n (c ∷ cs) rest h small stop =
    let g = grows (n * 10 + (c - 48)) cs in
    let fits : ltb (n * 10 + (c - 48)) (2 ^ 64) ≡ true = lt-ltb _ _ (omega arith) in
    let d : is_ascii_digit c ≡ true = (and_parts _ _ h).0 in
    rw (d, fits) (digits_again (n * 10 + (c - 48)) cs rest ((and_parts _ _ h).1) small stop)

-- what reading digits took
record Took (n : ℕ) (bytes : List ℕ) (m : ℕ) (rest : List ℕ) : Type 0 where
  ds : List ℕ
  parts : bytes ≡ ds ++ rest
  digits : AreDigits ds
  value : digits_from n ds ≡ m
  small : m < 2 ^ 64
  stop : begins_with_digit rest ≡ false

-- reading stops at once
stopped : (n : ℕ) (bytes : List ℕ) (m : ℕ) (rest : List ℕ) → n < 2 ^ 64 → begins_with_digit bytes ≡ false → n ≡ m → bytes ≡ rest → Took n bytes m rest
stopped n bytes m rest lt stop e f = record { ds = []; parts = f; digits = refl; value = e; small = rw (← e) lt; stop = rw (← f) stop }

-- digits that were read
digits_takes : (n : ℕ) (bytes : List ℕ) (m : ℕ) (rest : List ℕ) → n < 2 ^ 64 → digits_at n bytes ≡ Some (m, rest) → Took n bytes m rest
unfolding digits_at
digits_takes n [] m rest lt h =
    let e = some_is (n, []) (m, rest) h in
    stopped n [] m rest lt refl (ap (λ (p : ℕ × List ℕ). p.0) e) (ap (λ (p : ℕ × List ℕ). p.1) e)
digits_takes n (b ∷ bytes) m rest lt h =
    let k = n * 10 + (b - 48) in
    elim (chosen (is_ascii_digit b) (cond (ltb k (2 ^ 64)) (digits_at k bytes) None) (Some (n, b ∷ bytes)) (Some (m, rest)) h) [
      | inl d ↦
          elim (chosen (ltb k (2 ^ 64)) (digits_at k bytes) None (Some (m, rest)) d.1) [
            | inl f ↦
                let t = digits_takes k bytes m rest (ltb-true _ _ f.0) f.1 in
                record { ds = b ∷ t.ds; parts = ap (λ (x : List ℕ). b ∷ x) t.parts; digits = and_from _ _ d.0 t.digits; value = t.value; small = t.small; stop = t.stop }
            | inr f ↦ absurd (let g = f.1 in cc)
          ]
      | inr d ↦
          let e = some_is (n, b ∷ bytes) (m, rest) d.1 in
          stopped n (b ∷ bytes) m rest lt d.0 (ap (λ (p : ℕ × List ℕ). p.0) e) (ap (λ (p : ℕ × List ℕ). p.1) e)
    ]

-- digits that do not begin with `0`
digits_number : (ds rest : List ℕ) → AreDigits ds → 48 < get_or ds 0 0 → digits_from 0 ds < 2 ^ 64 → begins_with_digit rest ≡ false → number_at (ds ++ rest) ≡ Some (digits_from 0 ds, rest)
unfolding number_at
digits_number [] rest h first small stop = absurd (omega arith)
digits_number (c ∷ cs) rest h first small stop =
    let z : eqb c 48 ≡ false = ne_eqb _ _ (λ e. omega arith) in
    let d : is_ascii_digit c ≡ true = (and_parts _ _ h).0 in
    rw (z, d) (digits_again 0 (c ∷ cs) rest h small stop)

-- a number's text is read again, where no digit follows
pub number_again : (n : ℕ) (rest : List ℕ) → n < 2 ^ 64 → begins_with_digit rest ≡ false → number_at (decimal n ++ rest) ≡ Some (n, rest)
unfolding number_at
number_again zero rest small stop = rw (decimal_digit 0 (omega arith)) (rw stop refl)
number_again (suc n) rest small stop =
    let v = digits_value-decimal own (suc n) small in
    let r = digits_number (decimal (suc n)) rest (digits_decimal own (suc n) small) (first_decimal (suc n) (omega arith) small) (rw v small) stop in
    rw v at r

-- what reading a number took
pub record TookNumber (bytes : List ℕ) (n : ℕ) (rest : List ℕ) : Type 0 where
  pub parts : bytes ≡ decimal n ++ rest
  pub small : n < 2 ^ 64

-- digits that were read, the first of which is not `0`
nonzero : (b : ℕ) (bytes : List ℕ) (n : ℕ) (rest : List ℕ) → eqb b 48 ≡ false → is_ascii_digit b ≡ true → Took 0 (b ∷ bytes) n rest → TookNumber (b ∷ bytes) n rest
nonzero b bytes n rest z d t =
    (elim t.ds as (λ ds. b ∷ bytes ≡ ds ++ rest → AreDigits ds → digits_from 0 ds ≡ n → TookNumber (b ∷ bytes) n rest) [
      | [] ↦ λ parts digits value. absurd (let s : is_ascii_digit b ≡ false = ap begins_with_digit parts ∙ t.stop in cc)
      | c ∷ cs ↦ λ parts digits value.
          let first : b ≡ c = ap (λ (x : List ℕ). get_or x 0 0) parts in
          let text : decimal (digits_from 0 (c ∷ cs)) ≡ c ∷ cs = decimal-digits_value own (c ∷ cs) digits (omega arith) (λ e. absurd (eqb-false _ _ z (first ∙ e))) (rw value t.small) in
          record { parts = rw (← value, text) parts; small = t.small }
    ]) t.parts t.digits t.value

-- a number that was read
pub number_takes : (bytes : List ℕ) (n : ℕ) (rest : List ℕ) → number_at bytes ≡ Some (n, rest) → TookNumber bytes n rest
unfolding number_at
number_takes [] n rest h = absurd cc
number_takes (b ∷ bytes) n rest h =
    elim (chosen (eqb b 48) (cond (begins_with_digit bytes) None (Some (0, bytes))) (cond (is_ascii_digit b) (digits_at 0 (b ∷ bytes)) None) (Some (n, rest)) h) [
      | inl z ↦
          elim (chosen (begins_with_digit bytes) None (Some (0, bytes)) (Some (n, rest)) z.1) [
            | inl d ↦ absurd (let g = d.1 in cc)
            | inr d ↦
                let e = some_is (0, bytes) (n, rest) d.1 in
                let n0 : 0 ≡ n = ap (λ (p : ℕ × List ℕ). p.0) e in
                let r0 : bytes ≡ rest = ap (λ (p : ℕ × List ℕ). p.1) e in
                let b0 : b ≡ 48 = eqb-true _ _ z.0 in
                record { parts = rw (← n0, ← r0, b0, decimal_digit 0 (omega arith)) refl; small = omega arith }
          ]
      | inr z ↦
          elim (chosen (is_ascii_digit b) (digits_at 0 (b ∷ bytes)) None (Some (n, rest)) z.1) [
            | inl d ↦ nonzero b bytes n rest z.0 d.0 (digits_takes 0 (b ∷ bytes) n rest (omega arith) d.1)
            | inr d ↦ absurd (let g = d.1 in cc)
          ]
    ]

-- bytes of which the first is a digit
pub record BeginsWithDigit (bytes : List ℕ) : Type 0 where
  pub first : ℕ
  pub others : List ℕ
  pub parts : bytes ≡ first ∷ others
  pub digit : is_ascii_digit first ≡ true

-- digits begin with a digit
digits_begin : (ds rest : List ℕ) → AreDigits ds → 0 < length ds → BeginsWithDigit (ds ++ rest)
digits_begin [] rest h some = absurd (omega arith)
digits_begin (c ∷ cs) rest h some = record { first = c; others = cs ++ rest; parts = refl; digit = (and_parts _ _ h).0 }

-- a number's text begins with a digit
pub begins_decimal : (n : ℕ) (rest : List ℕ) → n < 2 ^ 64 → BeginsWithDigit (decimal n ++ rest)
begins_decimal n rest small = digits_begin (decimal n) rest (digits_decimal own n small) (decimal_nonempty n small)

-- a number's text is of digits
pub decimal_digits : (n : ℕ) → n < 2 ^ 64 → all_ascii_digits (decimal n) ≡ true
decimal_digits n small = digits_decimal own n small
