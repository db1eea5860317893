-- The forms of numbers behind their sign.
use Rattle.std.proofs.Common.{◌≡◌, ℕ, ◌+◌, ◌<◌, ◌≤◌, ◌⊎◌, Bool, true, false, List, [], ◌∷◌, length, ⊎_elim, arith, sym, ◌∙◌, refl, ap, inl, inr, subst, lit<}
use Rattle.std.specs.Prelude.{slice_index, codes}
use Rattle.std.proofs.lemmas.Bool.{cases_lt, false≢true}
use Rattle.fzn_token.specs.Bytes.{IsWholeRun, is_digit_in, is_letter}
use Rattle.fzn_token.specs.Numbers.{IsDigits, IsPrefixed, IsNatural, decimal, hexadecimal, octal, IsSign, IsTail, fraction, exponent, both}
use Rattle.fzn_token.proofs.FloatTails.{digits_at_most, exponent_start, fraction_digits}
use Rattle.fzn_token.proofs.Classes.{digit_range}

-- a byte outside 0 to 9 is no digit
pub no_digit_at : (b c : ℕ) → is_digit_in 10 b ≡ true → b ≡ c → (c < 48) ⊎ (58 ≤ c) → ⊥
no_digit_at b c digit is out = let range = digit_range b digit in ⊎_elim (λ low. omega arith) (λ high. omega arith) out

-- a tail begins with a byte that is no digit and no `x` or `o`
tail_no_digit : {text : List ℕ} {i j : ℕ} → IsTail text i j → (slice_index text i ≡ 46) ⊎ ((slice_index text i ≡ 101) ⊎ (slice_index text i ≡ 69))
tail_no_digit (fraction f) = inl (fraction_digits f).0
tail_no_digit (exponent e) = inr (exponent_start e).letter
tail_no_digit (both k f e) = inl (fraction_digits f).0

-- a tail begins within the text
tail_below : {text : List ℕ} {i j : ℕ} → IsTail text i j → i < length text
tail_below (fraction f) = f.1.0
tail_below {text} {i} {j} (exponent e) = let start = exponent_start e in ⊎_elim (λ small. small.0) (λ large. large.0) e.2
tail_below (both k f e) = f.1.0

-- no tail begins with a digit, an `x` or an `o`
pub tail_not_at : {text : List ℕ} {i j : ℕ} → IsTail text i j → (is_digit_in 10 (slice_index text i) ≡ true) ⊎ ((slice_index text i ≡ 120) ⊎ (slice_index text i ≡ 111)) → ⊥
tail_not_at {text} {i} {j} t bad = ⊎_elim
    (λ digit. let range = digit_range (slice_index text i) digit in ⊎_elim (λ point. omega arith) (λ letter. ⊎_elim (λ small. omega arith) (λ large. omega arith) letter) (tail_no_digit t))
    (λ prefix. ⊎_elim
    (λ x. ⊎_elim (λ point. omega arith) (λ letter. ⊎_elim (λ small. omega arith) (λ large. omega arith) letter) (tail_no_digit t))
    (λ o. ⊎_elim (λ point. omega arith) (λ letter. ⊎_elim (λ small. omega arith) (λ large. omega arith) letter) (tail_no_digit t))
    prefix)
    bad

-- no tail begins where no `.` and no letter stands
pub tail_start : (text : List ℕ) (i j : ℕ) → (i < length text → slice_index text i ≡ 46 → ⊥) → (i < length text → is_letter (slice_index text i) ≡ false) → IsTail text i j → ⊥
tail_start text i j no_point no_letter t =
    let below : i < length text = tail_below t in
    ⊎_elim
    (λ point. no_point below point)
    (λ letter. ⊎_elim
    (λ small. false≢true (sym (no_letter below) ∙ ap is_letter small))
    (λ large. false≢true (sym (no_letter below) ∙ ap is_letter large))
    letter)
    (tail_no_digit t)

-- a prefix is a `0` and one byte
pub record Prefix (c base : ℕ) (text : List ℕ) (i j : ℕ) : Type 0 where
  pub zero_here : slice_index text i ≡ 48
  pub letter_here : slice_index text (i + 1) ≡ c
  pub digits : IsDigits base text (i + 2) j

-- a prefix is these two bytes
pub prefix_is : {c base : ℕ} {text : List ℕ} {i k j : ℕ} → IsPrefixed (48 ∷ c ∷ []) base text i k j → Prefix c base text i j
prefix_is {c} {base} {text} {i} {k} {j} p =
    let end : k ≡ i + 2 = (let steps : i + 1 + 1 ≡ k = p.front_here.2.2 in omega arith) in
    record { zero_here = p.front_here.1; letter_here = p.front_here.2.1; digits = subst (λ x. IsDigits base text x j) end p.digits }

-- digits behind an optional sign begin at one place
pub same_sign : (a b : Bool) (text : List ℕ) (i k l : ℕ) → IsSign a text i k → IsSign b text i l → is_digit_in 10 (slice_index text k) ≡ true → is_digit_in 10 (slice_index text l) ≡ true → k ≡ l
same_sign false false text i k l a b dk dl = sym a ∙ b
same_sign true true text i k l a b dk dl = sym a.2 ∙ b.2
same_sign true false text i k l a b dk dl = absurd (no_digit_at _ 45 dl (ap (slice_index text) (sym b) ∙ a.1) (inl (lit< tt)))
same_sign false true text i k l a b dk dl = absurd (no_digit_at _ 45 dk (ap (slice_index text) (sym a) ∙ b.1) (inl (lit< tt)))

-- an integer's or a float's digits begin where they are read
pub data Form (text : List ℕ) (start to : ℕ) : Type 0 where
  of_whole : (n : ℕ) → IsNatural text start to n → Form text start to
  of_float : (middle : ℕ) → IsDigits 10 text start middle → IsTail text middle to → Form text start to

module _ (text : List ℕ) (start end : ℕ) (whole : IsWholeRun (is_digit_in 10) text start end) where
  -- a float's whole part is all the digits
  float_middle : {middle to : ℕ} → IsDigits 10 text start middle → IsTail text middle to → middle ≡ end
  float_middle {middle} {to} d t =
      let at_most = digits_at_most whole d in
      ⊎_elim (λ less. absurd (tail_not_at t (inl (whole.run.each middle (omega (arith, d.some)) less)))) (λ not_less. omega arith) (cases_lt middle end)

  -- behind a `0` and a letter that is no digit there are no more digits
  short_end : (c : ℕ) → slice_index text (start + 1) ≡ c → (c < 48) ⊎ (58 ≤ c) → end ≤ start + 1
  short_end c is out = ⊎_elim (λ longer. absurd (no_digit_at _ c (whole.run.each (start + 1) (omega arith) longer) is out)) (λ not_longer. not_longer) (cases_lt (start + 1) end)

  -- with no letter behind the digits there is no prefix
  pub no_prefix : (c base k to : ℕ) → (c < 48) ⊎ (58 ≤ c) → is_letter c ≡ true → start < end → (end < length text → is_letter (slice_index text end) ≡ false) → IsPrefixed (48 ∷ c ∷ []) base text start k to → ⊥
  no_prefix c base k to out letter some no_letter p =
      let here = prefix_is p in
      let short = short_end c here.letter_here out in
      let at_end : end ≡ start + 1 = omega arith in
      let below : end < length text = omega (arith, here.digits.some, here.digits.run.within) in
      false≢true (sym (no_letter below) ∙ ap (λ x. is_letter (slice_index text x)) at_end ∙ ap is_letter here.letter_here ∙ letter)

  -- with a prefix, its whole run of digits is the longest form
  prefixed_at_most : (c base j : ℕ) → (c ≡ 120) ⊎ (c ≡ 111) → slice_index text (start + 1) ≡ c → IsDigits base text (start + 2) j → ((n k : ℕ) → IsPrefixed (codes "0x") 16 text start k n → n ≤ j) → ((n k : ℕ) → IsPrefixed (codes "0o") 8 text start k n → n ≤ j) → (to : ℕ) → Form text start to → to ≤ j
  prefixed_at_most c base j which is digits hexes octals to (of_whole n (decimal d v)) =
      let at_most = digits_at_most whole d in let short = short_end c is (⊎_elim (λ x. inr (omega arith)) (λ o. inr (omega arith)) which) in omega (arith, digits.some)
  prefixed_at_most c base j which is digits hexes octals to (of_whole n (hexadecimal k p v)) = hexes to k p
  prefixed_at_most c base j which is digits hexes octals to (of_whole n (octal k p v)) = octals to k p
  prefixed_at_most c base j which is digits hexes octals to (of_float middle d t) =
      let same = float_middle d t in
      let short = short_end c is (⊎_elim (λ x. inr (omega arith)) (λ o. inr (omega arith)) which) in
      let at_end : middle ≡ start + 1 = omega arith in
      let letter : slice_index text middle ≡ c = ap (slice_index text) at_end ∙ is in
      absurd (tail_not_at t (inr (⊎_elim (λ x. inl (letter ∙ x)) (λ o. inr (letter ∙ o)) which)))

  -- with no prefix and no tail, the digits are the longest form
  pub plain_at_most : ((k n : ℕ) → IsPrefixed (codes "0x") 16 text start k n → ⊥) → ((k n : ℕ) → IsPrefixed (codes "0o") 8 text start k n → ⊥) → ((to : ℕ) → IsTail text end to → ⊥) → (to : ℕ) → Form text start to → to ≤ end
  plain_at_most no_hex no_octal no_tail to (of_whole n (decimal d v)) = digits_at_most whole d
  plain_at_most no_hex no_octal no_tail to (of_whole n (hexadecimal k p v)) = absurd (no_hex k to p)
  plain_at_most no_hex no_octal no_tail to (of_whole n (octal k p v)) = absurd (no_octal k to p)
  plain_at_most no_hex no_octal no_tail to (of_float middle d t) = absurd (no_tail to (subst (λ x. IsTail text x to) (float_middle d t) t))

  -- with no prefix, a float is the longest form
  pub float_at_most : (j : ℕ) → end ≤ j → ((k n : ℕ) → IsPrefixed (codes "0x") 16 text start k n → ⊥) → ((k n : ℕ) → IsPrefixed (codes "0o") 8 text start k n → ⊥) → ((to : ℕ) → IsTail text end to → to ≤ j) → (to : ℕ) → Form text start to → to ≤ j
  float_at_most j past no_hex no_octal tails to (of_whole n (decimal d v)) = let at_most = digits_at_most whole d in omega arith
  float_at_most j past no_hex no_octal tails to (of_whole n (hexadecimal k p v)) = absurd (no_hex k to p)
  float_at_most j past no_hex no_octal tails to (of_whole n (octal k p v)) = absurd (no_octal k to p)
  float_at_most j past no_hex no_octal tails to (of_float middle d t) = tails to (subst (λ x. IsTail text x to) (float_middle d t) t)

  -- the whole run of hexadecimal digits is the longest form
  pub hex_most : (j : ℕ) → IsPrefixed (codes "0x") 16 text start (start + 2) j × IsWholeRun (is_digit_in 16) text (start + 2) j → (to : ℕ) → Form text start to → to ≤ j
  hex_most j found = let here = prefix_is found.0 in prefixed_at_most 120 16 j (inl refl) here.letter_here here.digits
      (λ n k p. digits_at_most found.1 (prefix_is p).digits)
      (λ n k p. let is_o = (prefix_is p).letter_here in let is_x = here.letter_here in omega arith)

  -- the whole run of octal digits is the longest form
  pub octal_most : ((k n : ℕ) → IsPrefixed (codes "0x") 16 text start k n → ⊥) → (j : ℕ) → IsPrefixed (codes "0o") 8 text start (start + 2) j × IsWholeRun (is_digit_in 8) text (start + 2) j → (to : ℕ) → Form text start to → to ≤ j
  octal_most no_hex j found = let here = prefix_is found.0 in prefixed_at_most 111 8 j (inr refl) here.letter_here here.digits
      (λ n k p. absurd (no_hex k n p))
      (λ n k p. digits_at_most found.1 (prefix_is p).digits)
