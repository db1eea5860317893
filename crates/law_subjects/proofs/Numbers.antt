-- Numbers in a text: decimal digits, with or without a `-`, are the longest token at their place.
use Rattle.std.proofs.Common.{◌≡◌, ℕ, ◌+◌, ◌<◌, ◌≤◌, Bool, true, false, List, [], ◌∷◌, ◌++◌, length, slice_index, sym, refl, ap, inr, ⊎_elim, ◌∙◌, append_assoc, length-append, arith}
use Rattle.std.specs.Prelude.{not, ◌&&◌, ◌||◌, ◌==◌, codes}
use Rattle.std.specs.List.{list_all}
use Rattle.std.specs.Str.Parse.{digits_value}
use Rattle.std.proofs.lemmas.Bool.{cases_lt, false≢true}
use Rattle.fzn_token.specs.Bytes.{is_name_byte, is_digit_in, IsWholeRun}
use Rattle.fzn_token.specs.Numbers.{decimal, IsPrefixed, IsSign, signed, IsTail, fraction, exponent, both, IsFraction, IsExponent}
use Rattle.fzn_token.specs.Tokens.{IsLongest}
use Rattle.fzn_token.specs.declared.token.TokenKind.TheVariants as kind
use Rattle.std.proofs.lemmas.Bool.Decides.{nat_tests}
use Rattle.fzn_token.proofs.Classes.{digit_range}
use Rattle.fzn_token.proofs.NumberForms.{plain_at_most, no_digit_at}
use Rattle.fzn_token.proofs.FloatTails.{fraction_digits, exponent_start, first_digit}
use Rattle.fzn_token.proofs.LongestNumbers.{whole_longest, number_class}
use Rattle.law_subjects.proofs.Places.{stops, not_true, long, next_is, next_stops, whole_run, reads}

-- what follows a number: no byte of a name, and no point with a digit behind it
abbrev pub ends_number : List ℕ → Bool
ends_number [] = true
ends_number (c ∷ cs) = not (is_name_byte c) && (not (c == 46) || stops (is_digit_in 10) cs)

-- the first of two tests that pass
pub both_first : (a b : Bool) → (a && b) ≡ true → a ≡ true
both_first true b e = refl
both_first false b e = e

-- the second
pub both_second : (a b : Bool) → (a && b) ≡ true → b ≡ true
both_second true b e = e
both_second false b e = absurd (false≢true e)

-- no byte of a name follows a number
no_name : (after : List ℕ) → ends_number after ≡ true → stops is_name_byte after ≡ true
no_name [] e = refl
no_name (c ∷ cs) e = both_first (not (is_name_byte c)) _ e

-- a digit is a byte of a name
pub digit_of_name : (c : ℕ) → is_digit_in 10 c ≡ true → is_name_byte c ≡ true
digit_of_name c e = let range = digit_range c e in grind (arith, nat_tests)

-- a byte that is not of a name is no digit
no_digit : (c : ℕ) (b : Bool) → is_digit_in 10 c ≡ b → is_name_byte c ≡ false → is_digit_in 10 c ≡ false
no_digit c true is e = absurd (false≢true (sym e ∙ digit_of_name c is))
no_digit c false is e = is

-- so no digit follows
no_more : (after : List ℕ) → ends_number after ≡ true → stops (is_digit_in 10) after ≡ true
no_more [] e = refl
no_more (c ∷ cs) e = ap not (no_digit c (is_digit_in 10 c) refl (not_true (is_name_byte c) (both_first (not (is_name_byte c)) _ e)))

-- behind a point that follows no digit comes
after_point : (c : ℕ) (cs : List ℕ) → ends_number (c ∷ cs) ≡ true → c ≡ 46 → stops (is_digit_in 10) cs ≡ true
after_point c cs e is = rw is at (both_second (not (is_name_byte c)) _ e)

-- behind a number no fraction comes
no_fraction : (text before bs after : List ℕ) → text ≡ before ++ (bs ++ after) → ends_number after ≡ true → (to : ℕ) → IsFraction text (length before + length bs) to → ⊥
no_fraction text before bs [] e ends to f = let size = long text before bs [] e in omega (arith, size, f.1.0)
no_fraction text before bs (c ∷ cs) e ends to f =
    let parts = fraction_digits f in
    let point : c ≡ 46 = sym (next_is text before bs c cs e) ∙ parts.0 in
    let further : text ≡ before ++ ((bs ++ c ∷ []) ++ cs) = e ∙ ap (λ t. before ++ t) (sym (append_assoc bs (c ∷ []) cs)) in
    let place : length before + length (bs ++ c ∷ []) ≡ length before + length bs + 1 = (let more = length-append bs (c ∷ []) in omega (arith, more)) in
    let none = next_stops (is_digit_in 10) text before (bs ++ c ∷ []) cs further (after_point c cs ends point) (omega (arith, place, parts.1.some, parts.1.run.within)) in
    false≢true (sym none ∙ ap (λ i. is_digit_in 10 (slice_index text i)) place ∙ first_digit parts.1)

module _ (text before bs after : List ℕ) (e : text ≡ before ++ (bs ++ after)) (ends : ends_number after ≡ true) (all : list_all (is_digit_in 10) bs ≡ true) (some : 0 < length bs) where
  -- the digits are a whole run
  run : IsWholeRun (is_digit_in 10) text (length before) (length before + length bs)
  run = whole_run (is_digit_in 10) text before bs after e all (no_more after ends)

  -- the byte behind them is none of a name
  next : length before + length bs < length text → is_name_byte (slice_index text (length before + length bs)) ≡ false
  next = next_stops is_name_byte text before bs after e (no_name after ends)

  -- no letter stands behind a first digit alone
  no_letter : (c : ℕ) → is_name_byte c ≡ true → (58 ≤ c) → length before + 1 < length text → slice_index text (length before + 1) ≡ c → ⊥
  no_letter c name high within is = ⊎_elim
      (λ longer. no_digit_at _ c (run.run.each (length before + 1) (omega arith) longer) is (inr high))
      (λ not_longer. let end : length before + length bs ≡ length before + 1 = omega arith in
      false≢true (sym (next (omega arith)) ∙ ap (λ i. is_name_byte (slice_index text i)) end ∙ ap is_name_byte is ∙ name))
      (cases_lt (length before + 1) (length before + length bs))

  -- no exponent follows
  no_exponent : (to : ℕ) → IsExponent text (length before + length bs) to → ⊥
  no_exponent to x =
      let begin = exponent_start x in
      let none = next begin.below in
      ⊎_elim (λ small. false≢true (sym none ∙ ap is_name_byte small)) (λ large. false≢true (sym none ∙ ap is_name_byte large)) begin.letter

  -- so the number is no float
  no_tail : (to : ℕ) → IsTail text (length before + length bs) to → ⊥
  no_tail to (fraction f) = no_fraction text before bs after e ends to f
  no_tail to (exponent x) = no_exponent to x
  no_tail to (both k f x) = no_fraction text before bs after e ends k f

  -- behind an optional `-` the digits are the longest token, with their value
  pub whole_piece : (minus : Bool) (i n : ℕ) → IsSign minus text i (length before) → digits_value 10 bs ≡ n → IsLongest (kind.Whole (signed minus n)) text i (length before + length bs)
  whole_piece minus i n sign value =
      let more : length before < length before + length bs = omega arith in
      let class = number_class text i (length before) (length before + length bs) minus sign run more in
      let no_hex = λ (k m : ℕ) (p : IsPrefixed (codes "0x") 16 text (length before) k m). no_letter 120 refl (omega arith) p.front_here.2.0 p.front_here.2.1 in
      let no_octal = λ (k m : ℕ) (p : IsPrefixed (codes "0o") 8 text (length before) k m). no_letter 111 refl (omega arith) p.front_here.2.0 p.front_here.2.1 in
      whole_longest text i (length before) (length before + length bs) minus sign run more class (length before + length bs)
      (plain_at_most text (length before) (length before + length bs) run no_hex no_octal no_tail) n
      (decimal (record { some = more; run = run.run }) (sym value ∙ ap (digits_value 10) (sym (reads text before bs after e))))
