-- How the words of a line are read: a word up to its blank, a comment up to its line feed, a number's digits.
use Rattle.std.proofs.Common.{◌≡◌, ℕ, zero, suc, ◌+◌, ◌*◌, ◌-◌, ◌/◌, ◌%◌, ◌^◌, ◌<◌, ◌≤◌, ◌==◌, Bool, true, false, List, [], ◌∷◌, ◌++◌, length, Some, None, refl, sym, ap, subst, ◌∙◌, arith}
use Rattle.std.specs.Prelude.{ℤ, pos, negsuc, decimal, nat_lt, if◌then◌else◌}
use Rattle.std.specs.List.{AllByRecursion}
use Rattle.std.specs.Char.{is_ascii_digit}
use Rattle.std.specs.Fmt.{signed_decimal, digit_glyph, digits_onto, digits}
use Rattle.std.proofs.lemmas.Bool.{ne_eqb}
use Rattle.std.proofs.lemmas.Fmt.{decimal_by_steps}
use Rattle.std.proofs.lemmas.Bool.Decides.{nat_tests}
use Rattle.cnf_front.specs.declared.words.Stand.{Stand}
use Rattle.cnf_front.specs.declared.words.Stand.TheVariants.{Start, Inside, Comment}
use Rattle.cnf_front.specs.Dimacs.{TextWord, word_at, is_blank, after_blank, step, ends_word, before_first, with_byte, on_step, words}
use Rattle.cnf_front.specs.Formulas.{all_digits, is_number, digits_of, number_of}

-- ---- the automaton

words_on : (s t : Stand) (b at : ℕ) (bytes : List ℕ) → step s b ≡ Some t → words s at (b ∷ bytes) ≡ words t (at + 1) bytes
unfolding words
words_on s t b at bytes h = ap (λ o. on_step o (λ next. words next (at + 1) bytes) (with_byte b at (ends_word bytes) (words Inside (at + 1) bytes))) h

word_on : (s : Stand) (b at : ℕ) (bytes : List ℕ) → step s b ≡ None → words s at (b ∷ bytes) ≡ with_byte b at (ends_word bytes) (words Inside (at + 1) bytes)
unfolding words
word_on s b at bytes h = ap (λ o. on_step o (λ next. words next (at + 1) bytes) (with_byte b at (ends_word bytes) (words Inside (at + 1) bytes))) h

inside_blank : (b : ℕ) → is_blank b ≡ true → step Inside b ≡ Some (after_blank b)
unfolding step
inside_blank b h = rw h refl

pub inside_byte : (b : ℕ) → is_blank b ≡ false → step Inside b ≡ None
unfolding step
inside_byte b h = rw h refl

pub start_byte : (b : ℕ) → is_blank b ≡ false → (b == 99) ≡ false → step Start b ≡ None
unfolding step
start_byte b h n = rw n (rw h refl)

-- none of the bytes is a blank
abbrev pub AreInWord : List ℕ → Type 0
AreInWord bytes = AllByRecursion (λ b. is_blank b ≡ false) bytes

-- a word up to a blank, and some place
pub word_read : (first : ℕ) (bytes : List ℕ) (s : Stand) (at blank : ℕ) (rest : List ℕ) → step s first ≡ None → AreInWord bytes → is_blank blank ≡ true
    → (n : ℕ) × (words s at (first ∷ bytes ++ blank ∷ rest) ≡ word_at (first ∷ bytes) at ∷ words (after_blank blank) n rest)
word_read first [] s at blank rest begins all is = (
  at + 1 + 1,
  word_on s first at (blank ∷ rest) begins ∙ ap (λ t. with_byte first at t (words Inside (at + 1) (blank ∷ rest))) is
      ∙ ap (λ (ws : List TextWord). word_at (first ∷ []) at ∷ ws) (words_on Inside (after_blank blank) blank (at + 1) rest (inside_blank blank is)),
)
word_read first (b ∷ bytes) s at blank rest begins all is =
    let r = word_read b bytes Inside (at + 1) blank rest (inside_byte b all.0) all.1 is in (
      r.0,
      word_on s first at (b ∷ bytes ++ blank ∷ rest) begins ∙ ap (λ t. with_byte first at t (words Inside (at + 1) (b ∷ bytes ++ blank ∷ rest))) all.0
          ∙ ap (λ (ws : List TextWord). before_first first at ws) r.1,
    )

-- ---- comments

comment_byte : (b : ℕ) → (b == 10) ≡ false → step Comment b ≡ Some Comment
unfolding step
comment_byte b h = rw h refl

comment_end : step Comment 10 ≡ Some Start
unfolding step
comment_end = refl

comment_begin : step Start 99 ≡ Some Comment
unfolding step
comment_begin = refl

-- no line ends among the bytes
abbrev pub AreInLine : List ℕ → Type 0
AreInLine bytes = AllByRecursion (λ b. (b == 10) ≡ false) bytes

comment_rest : (bytes : List ℕ) (at : ℕ) (rest : List ℕ) → AreInLine bytes → (n : ℕ) × (words Comment at (bytes ++ 10 ∷ rest) ≡ words Start n rest)
comment_rest [] at rest all = (at + 1, words_on Comment Start 10 at rest comment_end)
comment_rest (b ∷ bytes) at rest all =
    let r = comment_rest bytes (at + 1) rest all.1 in
    (r.0, words_on Comment Comment b at (bytes ++ 10 ∷ rest) (comment_byte b all.0) ∙ r.1)

-- a comment line says nothing
pub comment_read : (bytes : List ℕ) (at : ℕ) (rest : List ℕ) → AreInLine bytes → (n : ℕ) × (words Start at (99 ∷ bytes ++ 10 ∷ rest) ≡ words Start n rest)
comment_read bytes at rest all =
    let r = comment_rest bytes (at + 1) rest all in
    (r.0, words_on Start Comment 99 at (bytes ++ 10 ∷ rest) comment_begin ∙ r.1)

-- ---- numbers

-- a byte of a number: a digit or a sign
pub record IsOfNumber (b : ℕ) : Type 0 where
  pub in_word : is_blank b ≡ false
  pub no_comment : (b == 99) ≡ false
  pub in_line : (b == 10) ≡ false
  pub no_end : (b == 37) ≡ false

digit_byte : (d : ℕ) → d < 10 → IsOfNumber (48 + d)
digit_byte d l = record {
  in_word = rw (ne_eqb (48 + d) 32 (λ e. omega (arith, e)), ne_eqb (48 + d) 9 (λ e. omega (arith, e)), ne_eqb (48 + d) 13 (λ e. omega (arith, e)), ne_eqb (48 + d) 10 (λ e. omega (arith, e))) refl;
  no_comment = ne_eqb (48 + d) 99 (λ e. omega (arith, e));
  in_line = ne_eqb (48 + d) 10 (λ e. omega (arith, e));
  no_end = ne_eqb (48 + d) 37 (λ e. omega (arith, e));
}

is_digit : (d : ℕ) → d < 10 → is_ascii_digit (48 + d) ≡ true
is_digit d l = grind (arith, nat_tests)

-- the digits of a number, as they are read
pub record IsDigitsOf (m : ℕ) (ds : List ℕ) : Type 0 where
  pub reads : digits_of 0 ds ≡ Some m
  pub digits : all_digits ds ≡ true
  pub bytes : AllByRecursion IsOfNumber ds
  pub first : ℕ
  pub others : List ℕ
  pub parts : ds ≡ first ∷ others
  pub plain : (first == 45) ≡ false

digits_one : (acc d : ℕ) → d < 10 → acc * 10 + d < 2 ^ 64 → digits_of acc ((48 + d) ∷ []) ≡ Some (acc * 10 + d)
unfolding digits_of
digits_one acc d l small =
    let e : acc * 10 + (48 + d - 48) ≡ acc * 10 + d = omega arith in
    rw (is_digit d l, e) (grind (arith, nat_tests, small))

digits_more : (acc m d : ℕ) (ds : List ℕ) → digits_of acc ds ≡ Some m → d < 10 → m * 10 + d < 2 ^ 64 → digits_of acc (ds ++ (48 + d) ∷ []) ≡ Some (m * 10 + d)
unfolding digits_of
digits_more acc m d [] h l small = let same : acc ≡ m = cc in subst (λ n. digits_of n ((48 + d) ∷ []) ≡ Some (m * 10 + d)) (sym same) (digits_one m d l small)
digits_more acc m d (b ∷ ds) h l small =
    (elim (is_ascii_digit b) as (λ t. (if t then (if nat_lt (acc * 10 + (b - 48)) (2 ^ 64) then digits_of (acc * 10 + (b - 48)) ds else None) else None) ≡ Some m → (if t then (if nat_lt (acc * 10 + (b - 48)) (2 ^ 64) then digits_of (acc * 10 + (b - 48)) (ds ++ (48 + d) ∷ []) else None) else None) ≡ Some (m * 10 + d)) [
      | true ↦ λ k. (elim (nat_lt (acc * 10 + (b - 48)) (2 ^ 64)) as (λ t. (if t then digits_of (acc * 10 + (b - 48)) ds else None) ≡ Some m → (if t then digits_of (acc * 10 + (b - 48)) (ds ++ (48 + d) ∷ []) else None) ≡ Some (m * 10 + d)) [
        | true ↦ λ j. digits_more (acc * 10 + (b - 48)) m d ds j l small
        | false ↦ λ j. cc
      ]) k
      | false ↦ λ k. cc
    ]) h

all_digits_more : (d : ℕ) (ds : List ℕ) → all_digits ds ≡ true → d < 10 → all_digits (ds ++ (48 + d) ∷ []) ≡ true
unfolding all_digits
all_digits_more d [] h l = rw (is_digit d l) refl
all_digits_more d (b ∷ ds) h l =
    (elim (is_ascii_digit b) as (λ t. (if t then all_digits ds else false) ≡ true → (if t then all_digits (ds ++ (48 + d) ∷ []) else false) ≡ true) [
      | true ↦ λ k. all_digits_more d ds k l
      | false ↦ λ k. cc
    ]) h

bytes_more : (ds : List ℕ) (b : ℕ) → AllByRecursion IsOfNumber ds → IsOfNumber b → AllByRecursion IsOfNumber (ds ++ b ∷ [])
bytes_more [] b h k = (k, tt)
bytes_more (d ∷ ds) b h k = (h.0, bytes_more ds b h.1 k)

no_digits : all_digits [] ≡ true
unfolding all_digits
no_digits = refl

one_digit : (m : ℕ) → m < 10 → m < 2 ^ 64 → IsDigitsOf m ((48 + m) ∷ [])
one_digit m l small = record {
  reads = digits_one 0 m l (omega arith) ∙ ap Some (omega arith);
  digits = all_digits_more m [] no_digits l;
  bytes = (digit_byte m l, tt);
  first = 48 + m;
  others = [];
  parts = refl;
  plain = ne_eqb (48 + m) 45 (λ e. omega (arith, e));
}

more_digits : (m : ℕ) (ds : List ℕ) → 10 ≤ m → (m / 10 < 2 ^ 64 → IsDigitsOf (m / 10) ds) → m < 2 ^ 64 → IsDigitsOf m (ds ++ (48 + m % 10) ∷ [])
more_digits m ds l f small =
    let h = f (omega arith) in
    let e : m / 10 * 10 + m % 10 ≡ m = omega arith in
    let d : m % 10 < 10 = omega arith in
    record {
      reads = digits_more 0 (m / 10) (m % 10) ds h.reads d (omega arith) ∙ ap Some e;
      digits = all_digits_more (m % 10) ds h.digits d;
      bytes = bytes_more ds (48 + m % 10) h.bytes (digit_byte (m % 10) d);
      first = h.first;
      others = h.others ++ (48 + m % 10) ∷ [];
      parts = ap (λ (l : List ℕ). l ++ (48 + m % 10) ∷ []) h.parts;
      plain = h.plain;
    }

pub decimal_digits : (n : ℕ) → n < 2 ^ 64 → IsDigitsOf n (decimal n)
decimal_digits n small = decimal_by_steps (λ (m : ℕ) (ds : List ℕ). m < 2 ^ 64 → IsDigitsOf m ds) one_digit more_digits n small small

pub decimal_some : (n : ℕ) → n < 2 ^ 64 → decimal n ≡ [] → ⊥
decimal_some n small e = let d = decimal_digits n small in let no = sym d.parts ∙ e in cc

pub zero_text : decimal 0 ≡ 48 ∷ []
unfolding digits
zero_text = refl

-- a number is read as it is written
pub number_read : (n : ℕ) → n < 2 ^ 64 → number_of (decimal n) ≡ Some n
unfolding number_of
number_read n small = let h = decimal_digits n small in ap number_of h.parts ∙ ap (digits_of 0) (sym h.parts) ∙ h.reads

pub number_is : (n : ℕ) → n < 2 ^ 64 → is_number (decimal n) ≡ true
number_is n small = let h = decimal_digits n small in ap is_number h.parts ∙ ap all_digits (sym h.parts) ∙ h.digits

in_words : (bytes : List ℕ) → AllByRecursion IsOfNumber bytes → AreInWord bytes
in_words [] h = tt
in_words (b ∷ bytes) h = (h.0.in_word, in_words bytes h.1)

pub in_lines : (bytes : List ℕ) → AllByRecursion IsOfNumber bytes → AreInLine bytes
in_lines [] h = tt
in_lines (b ∷ bytes) h = (h.0.in_line, in_lines bytes h.1)

-- where a word may begin: a line begins, or it goes on
abbrev pub stand_of : Bool → Stand
stand_of true = Start
stand_of false = Inside

number_begins : (line : Bool) (b : ℕ) → IsOfNumber b → step (stand_of line) b ≡ None
number_begins true b h = start_byte b h.in_word h.no_comment
number_begins false b h = inside_byte b h.in_word

-- bytes of a number up to a blank are one word
pub bytes_read : (line : Bool) (bytes : List ℕ) (at blank : ℕ) (rest : List ℕ) → (bytes ≡ [] → ⊥) → AllByRecursion IsOfNumber bytes → is_blank blank ≡ true
    → (n : ℕ) × (words (stand_of line) at (bytes ++ blank ∷ rest) ≡ word_at bytes at ∷ words (after_blank blank) n rest)
bytes_read line [] at blank rest some all is = absurd (some refl)
bytes_read line (b ∷ bytes) at blank rest some all is = word_read b bytes (stand_of line) at blank rest (number_begins line b all.0) (in_words bytes all.1) is

minus_byte : IsOfNumber 45
minus_byte = record { in_word = refl; no_comment = refl; in_line = refl; no_end = refl }

-- ---- numbers of any size

glyph : (d : ℕ) → d < 10 → digit_glyph false d ≡ 48 + d
glyph d l = grind (arith, nat_tests)

glyph_byte : (n : ℕ) → IsOfNumber (digit_glyph false (n % 10))
glyph_byte n = subst IsOfNumber (sym (glyph (n % 10) (omega arith))) (digit_byte (n % 10) (omega arith))

onto_bytes : (k n : ℕ) (acc : List ℕ) → AllByRecursion IsOfNumber acc → AllByRecursion IsOfNumber (digits_onto k 10 false n acc)
onto_bytes zero n acc h = h
onto_bytes (suc k) n acc h = of (n / 10 == 0) (onto_bytes k (n / 10) (digit_glyph false (n % 10) ∷ acc) (glyph_byte n, h))
  where
    of : (b : Bool) → AllByRecursion IsOfNumber (digits_onto k 10 false (n / 10) (digit_glyph false (n % 10) ∷ acc)) → AllByRecursion IsOfNumber (if b then digit_glyph false (n % 10) ∷ acc else digits_onto k 10 false (n / 10) (digit_glyph false (n % 10) ∷ acc))
    of true ih = (glyph_byte n, h)
    of false ih = ih

onto_short : (k n : ℕ) (acc : List ℕ) → length (digits_onto k 10 false n acc) ≤ k + length acc
onto_short zero n acc = omega arith
onto_short (suc k) n acc = of (n / 10 == 0) (onto_short k (n / 10) (digit_glyph false (n % 10) ∷ acc))
  where
    of : (b : Bool) → length (digits_onto k 10 false (n / 10) (digit_glyph false (n % 10) ∷ acc)) ≤ k + suc (length acc) → length (if b then digit_glyph false (n % 10) ∷ acc else digits_onto k 10 false (n / 10) (digit_glyph false (n % 10) ∷ acc)) ≤ suc k + length acc
    of true ih = omega arith
    of false ih = omega (arith, ih)

pub decimal_bytes : (n : ℕ) → AllByRecursion IsOfNumber (decimal n)
unfolding digits
decimal_bytes n = onto_bytes 64 n [] tt

pub decimal_short : (n : ℕ) → length (decimal n) ≤ 64
unfolding digits
decimal_short n = onto_short 64 n []

pub signed_bytes : (z : ℤ) → AllByRecursion IsOfNumber (signed_decimal z)
signed_bytes (pos n) = decimal_bytes n
signed_bytes (negsuc n) = (minus_byte, decimal_bytes (suc n))

pub signed_short : (z : ℤ) → length (signed_decimal z) ≤ 65
signed_short (pos n) = let d = decimal_short n in omega (arith, d)
signed_short (negsuc n) = let d = decimal_short (suc n) in omega (arith, d)
