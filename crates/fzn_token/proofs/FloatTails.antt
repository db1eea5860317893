-- Fractions and exponents of floats.
use Rattle.std.proofs.Common.{◌≡◌, ℕ, ◌+◌, ◌<◌, ◌≤◌, ◌⊎◌, true, false, List, length, ⊎_elim, arith, sym, ◌∙◌, refl, inl, inr, subst, Option, Some, None}
use Rattle.std.specs.Prelude.{slice_index, MatchOption}
use Rattle.std.proofs.lemmas.Bool.{cases_lt, false≢true}
use Rattle.fzn_token.specs.Bytes.{is_digit_in, IsWholeRun}
use Rattle.fzn_token.specs.Numbers.{IsDigits, IsFraction, IsExponent, IsExponentSign, IsTail, fraction, exponent, both}
use Rattle.fzn_token.proofs.Runs.{run_at_most}

-- no digits end after the whole run of them
pub digits_at_most : {base : ℕ} {text : List ℕ} {i j to : ℕ} → IsWholeRun (is_digit_in base) text i j → IsDigits base text i to → to ≤ j
digits_at_most whole digits = run_at_most whole.stops whole.run.ordered digits.run

-- digits begin with a digit
pub first_digit : {base : ℕ} {text : List ℕ} {i j : ℕ} → IsDigits base text i j → is_digit_in base (slice_index text i) ≡ true
first_digit {i = i} digits = digits.run.each i (omega arith) digits.some

-- a byte that is no digit is none under another name
no_digit : (b c : ℕ) → is_digit_in 10 b ≡ true → b ≡ c → is_digit_in 10 c ≡ false → ⊥
no_digit b c passes is not = false≢true (sym not ∙ (rw is at passes))

-- after an exponent's letter, the digits begin after the sign, if there is one
pub sign_same : {text : List ℕ} {i l j : ℕ} → IsExponentSign text i l → IsDigits 10 text l j → ((slice_index text i ≡ 43) ⊎ (slice_index text i ≡ 45)) → l ≡ i + 1
sign_same {text} {i} {l} {j} sign digits here = ⊎_elim
    (λ none. let first = subst (λ x. is_digit_in 10 (slice_index text x) ≡ true) (sym none) (first_digit digits) in ⊎_elim (λ plus. absurd (no_digit _ 43 first plus refl)) (λ minus. absurd (no_digit _ 45 first minus refl)) here)
    (λ some. ⊎_elim (λ plus. sym plus.2) (λ minus. sym minus.2) some)
    sign

-- where no sign stands, the digits begin at once
pub sign_none : (text : List ℕ) (i l : ℕ) → IsExponentSign text i l → (slice_index text i ≡ 43 → ⊥) → (slice_index text i ≡ 45 → ⊥) → l ≡ i
sign_none text i l sign no_plus no_minus = ⊎_elim (λ none. sym none) (λ some. ⊎_elim (λ plus. absurd (no_plus plus.1)) (λ minus. absurd (no_minus minus.1)) some) sign

-- an exponent, with its parts named
pub record ExponentStart (text : List ℕ) (i j : ℕ) : Type 0 where
  pub below : i < length text
  pub letter : (slice_index text i ≡ 101) ⊎ (slice_index text i ≡ 69)
  pub start : ℕ
  pub sign : IsExponentSign text (i + 1) start
  pub digits : IsDigits 10 text start j

-- an exponent has these parts
pub exponent_start : {text : List ℕ} {i j : ℕ} → IsExponent text i j → ExponentStart text i j
exponent_start {text} {i} {j} (k, l, letter, sign, digits) = ⊎_elim
    (λ small. record { below = small.0; letter = inl small.1; start = l; sign = subst (λ x. IsExponentSign text x l) (sym small.2) sign; digits = digits })
    (λ large. record { below = large.0; letter = inr large.1; start = l; sign = subst (λ x. IsExponentSign text x l) (sym large.2) sign; digits = digits })
    letter

-- an exponent does not begin with a digit or a point
pub no_exponent_at : {text : List ℕ} {i j : ℕ} → IsExponent text i j → (is_digit_in 10 (slice_index text i) ≡ true) ⊎ (slice_index text i ≡ 46) → ⊥
no_exponent_at {text} {i} {j} e = let s = exponent_start e in ⊎_elim
    (λ digit. ⊎_elim (λ small. no_digit _ 101 digit small refl) (λ large. no_digit _ 69 digit large refl) s.letter)
    (λ point. ⊎_elim (λ small. omega arith) (λ large. omega arith) s.letter)

-- a fraction's digits begin after the point
pub fraction_digits : {text : List ℕ} {i j : ℕ} → IsFraction text i j → (slice_index text i ≡ 46) × IsDigits 10 text (i + 1) j
fraction_digits {text} {i} {j} (k, here, digits) = (here.1, subst (λ x. IsDigits 10 text x j) (sym here.2) digits)

module _ {text : List ℕ} {i middle : ℕ} (whole : IsWholeRun (is_digit_in 10) text (i + 1) middle) where
  -- no fraction ends after the whole run of its digits
  pub fraction_at_most : {j : ℕ} → IsFraction text i j → j ≤ middle
  fraction_at_most f = digits_at_most whole (fraction_digits f).1

  -- where an exponent follows a fraction, the fraction is whole
  pub fraction_whole : {k j : ℕ} → IsFraction text i k → IsExponent text k j → k ≡ middle
  fraction_whole {k} {j} f e = ⊎_elim
      (λ less. let d = (fraction_digits f).1 in absurd (no_exponent_at e (inl (whole.run.each k (omega (arith, d.some)) less))))
      (λ not_less. let at_most = fraction_at_most f in omega arith)
      (cases_lt k middle)

-- with no fraction, a tail is an exponent
pub tail_alone : {text : List ℕ} {i j : ℕ} → ((k : ℕ) → IsFraction text i k → ⊥) → IsTail text i j → IsExponent text i j
tail_alone no_fraction (fraction f) = absurd (no_fraction _ f)
tail_alone no_fraction (exponent e) = e
tail_alone no_fraction (both k f e) = absurd (no_fraction k f)

-- behind a whole fraction, a tail is the fraction, or an exponent goes on
pub tail_after : {text : List ℕ} {i middle j : ℕ} → IsFraction text i middle → IsWholeRun (is_digit_in 10) text (i + 1) middle → IsTail text i j → (j ≤ middle) ⊎ IsExponent text middle j
tail_after whole_fraction whole (fraction f) = inl (fraction_at_most whole f)
tail_after whole_fraction whole (exponent e) = absurd (no_exponent_at e (inr (fraction_digits whole_fraction).0))
tail_after {text} {i} {middle} {j} whole_fraction whole (both k f e) = inr (subst (λ x. IsExponent text x j) (fraction_whole whole f e) e)

-- the whole run of digits makes the longest exponent
pub exponent_found : {text : List ℕ} {i start end : ℕ} → i < length text → (slice_index text i ≡ 101) ⊎ (slice_index text i ≡ 69) → IsExponentSign text (i + 1) start → ((l j : ℕ) → IsExponentSign text (i + 1) l → IsDigits 10 text l j → l ≡ start) → IsWholeRun (is_digit_in 10) text start end → start < end → IsExponent text i end × ((other : ℕ) → IsExponent text i other → other ≤ end)
exponent_found {text} {i} {start} {end} below letter sign only whole some = (
  (i + 1, start, ⊎_elim (λ small. inl (below, small, refl)) (λ large. inr (below, large, refl)) letter, sign, record { some = some; run = whole.run }),
  λ other e. let s = exponent_start e in digits_at_most whole (subst (λ x. IsDigits 10 text x other) (only s.start other s.sign s.digits) s.digits),
)

-- without a digit there is no exponent
pub exponent_missing : {text : List ℕ} {i start end : ℕ} → ((l j : ℕ) → IsExponentSign text (i + 1) l → IsDigits 10 text l j → l ≡ start) → IsWholeRun (is_digit_in 10) text start end → end ≤ start → (j : ℕ) → IsExponent text i j → ⊥
exponent_missing {text} {i} {start} {end} only whole none j e =
    let s = exponent_start e in
    let digits = subst (λ x. IsDigits 10 text x j) (only s.start j s.sign s.digits) s.digits in
    let at_most = digits_at_most whole digits in
    omega (arith, digits.some)

-- where no fraction stands, a tail ends where an exponent does
pub tail_alone_is : {text : List ℕ} {i : ℕ} (o : Option ℕ) → ((k : ℕ) → IsFraction text i k → ⊥) → MatchOption o ((j : ℕ) → IsExponent text i j → ⊥) (λ j. IsExponent text i j × ((other : ℕ) → IsExponent text i other → other ≤ j)) → MatchOption o ((j : ℕ) → IsTail text i j → ⊥) (λ j. IsTail text i j × ((other : ℕ) → IsTail text i other → other ≤ j))
tail_alone_is None no_fraction none = λ j t. none j (tail_alone no_fraction t)
tail_alone_is (Some j) no_fraction found = (exponent found.0, λ other t. found.1 other (tail_alone no_fraction t))

-- with no exponent behind it, the fraction is the longest tail
pub tail_short : {text : List ℕ} {i middle : ℕ} → IsFraction text i middle × IsWholeRun (is_digit_in 10) text (i + 1) middle → ((j : ℕ) → IsExponent text middle j → ⊥) → IsTail text i middle × ((other : ℕ) → IsTail text i other → other ≤ middle)
tail_short f none = (fraction f.0, λ other t. ⊎_elim (λ at_most. at_most) (λ e. absurd (none other e)) (tail_after f.0 f.1 t))

-- the fraction with the longest exponent behind it is the longest tail
pub tail_long : {text : List ℕ} {i middle end : ℕ} → IsFraction text i middle × IsWholeRun (is_digit_in 10) text (i + 1) middle → IsExponent text middle end × ((other : ℕ) → IsExponent text middle other → other ≤ end) → middle ≤ end → IsTail text i end × ((other : ℕ) → IsTail text i other → other ≤ end)
tail_long {text} {i} {middle} {end} f e more = (both middle f.0 e.0, λ other t. ⊎_elim (λ at_most. omega arith) (λ longer. e.1 other longer) (tail_after f.0 f.1 t))

-- an exponent ends no earlier than it begins
pub exponent_goes_on : {text : List ℕ} {i j : ℕ} → IsExponent text i j → i ≤ j
-- an exponent ends no earlier than it begins
exponent_goes_on {text} {i} {j} e = let s = exponent_start e in let d = s.digits.some in ⊎_elim (λ none. omega arith) (λ some. ⊎_elim (λ plus. let step : i + 1 + 1 ≡ s.start = plus.2 in omega arith) (λ minus. let step : i + 1 + 1 ≡ s.start = minus.2 in omega arith) some) s.sign

-- an exponent has some bytes
pub exponent_some : {text : List ℕ} {i j : ℕ} → IsExponent text i j → i < j
-- an exponent has some bytes
exponent_some {text} {i} {j} e = let s = exponent_start e in let d = s.digits.some in ⊎_elim (λ none. omega arith) (λ some. ⊎_elim (λ plus. let step : i + 1 + 1 ≡ s.start = plus.2 in omega arith) (λ minus. let step : i + 1 + 1 ≡ s.start = minus.2 in omega arith) some) s.sign
