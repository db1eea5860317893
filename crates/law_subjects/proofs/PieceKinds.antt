-- The kinds of pieces, and what may follow each.
use Rattle.std.proofs.Common.{◌≡◌, ℕ, pos, zero, suc, ◌+◌, ◌<◌, ◌≤◌, ◌^◌, Bool, true, false, List, [], ◌∷◌, ◌++◌, length, slice_index, Some, None, sym, refl, ap, ◌∙◌, subst, append_assoc, length-append, arith}
use Rattle.std.specs.Prelude.{decimal, not, nat_lt, ◌==◌, neg_ℤ, FitsSigned}
use Rattle.std.specs.Int.{w64}
use Rattle.std.specs.List.{list_all}
use Rattle.std.specs.Str.Parse.{digits_value, AllDigits}
use Rattle.std.specs.Char.{digit_value}
use Rattle.std.proofs.lemmas.Int.{fits_signed_from_abs}
use Rattle.std.proofs.lemmas.Fmt.{decimal_is_IsNumeral}
use Rattle.std.proofs.lemmas.Bool.{false≢true}
use Rattle.std.proofs.lemmas.Bool.Decides.{nat_tests}
use Rattle.fzn_token.specs.Bytes.{IsHere, is_blank, is_letter, is_name_byte, is_digit_in}
use Rattle.fzn_token.specs.Numbers.{IsSign}
use Rattle.fzn_token.specs.Tokens.{IsLongest}
use Rattle.fzn_token.specs.Words.{word_text, mark_text}
use Rattle.fzn_token.specs.Lookup.{word_in, mark_in}
use Rattle.fzn_token.specs.declared.token.Word.{Word}
use Rattle.fzn_token.specs.declared.token.Mark.{Mark}
use Rattle.fzn_token.specs.declared.token.TokenKind.TheVariants as kind
use Rattle.fzn_token.proofs.Classes.{class_of, other, digit_range}
use Rattle.law_subjects.proofs.Places.{stops, placed, next_stops}
use Rattle.law_subjects.proofs.Numbers.{both_first, ends_number, whole_piece}
use Rattle.law_subjects.proofs.Tokens.{starts, name_piece, word_piece, is_twice, twice, told, mark_piece}
use Rattle.law_subjects.proofs.Pieces.{Piece, IsPiece, is_skip}

-- a keyword, a mark, a name and a number as pieces
abbrev pub word : Word → List ℕ → Piece
word w gap = record { kind = kind.Word w; bytes = word_text w; gap = gap }

abbrev pub mark : Mark → List ℕ → Piece
mark m gap = record { kind = kind.Mark m; bytes = mark_text m; gap = gap }

abbrev pub called : List ℕ → List ℕ → Piece
called bs gap = record { kind = kind.Name; bytes = bs; gap = gap }

-- a number, as digits
abbrev pub number : ℕ → List ℕ → List ℕ → Piece
number n bs gap = record { kind = kind.Whole (pos n); bytes = bs; gap = gap }

-- its negation
abbrev pub minus : ℕ → List ℕ → List ℕ → Piece
minus n bs gap = record { kind = kind.Whole (neg_ℤ (pos n)); bytes = 45 ∷ bs; gap = gap }

-- some digits write the number
pub record AreDigits (n : ℕ) (bs : List ℕ) : Type 0 where
  pub all : list_all (is_digit_in 10) bs ≡ true
  pub some : 0 < length bs
  pub value : digits_value 10 bs ≡ n

-- a small number has 64 bits
fits : (n : ℕ) → n ≤ 2 ^ 31 → FitsSigned w64 (pos n)
fits n small = fits_signed_from_abs w64 (pos n) (omega arith)

-- and so its negation
fits_below : (n : ℕ) → n ≤ 2 ^ 31 → FitsSigned w64 (neg_ℤ (pos n))
fits_below zero small = fits_signed_from_abs w64 (pos zero) (omega arith)
fits_below (suc n) small = fits_signed_from_abs w64 (neg_ℤ (pos (suc n))) (omega arith)

-- a number below another passes the test
is_below : (a b : ℕ) → a < b → nat_lt a b ≡ true
is_below a b below = grind (arith, nat_tests)

-- a keyword
pub is_word : (w : Word) (gap rest : List ℕ) → stops is_name_byte (gap ++ rest) ≡ true → list_all is_blank gap ≡ true → stops is_skip rest ≡ true → IsPiece (word w gap) rest
is_word w gap rest stop blank solid = record {
  longest = λ text before e. word_piece text before (gap ++ rest) w e stop;
  in_range = tt;
  blank = blank;
  solid = solid;
}

-- a name
pub is_called : (bs gap rest : List ℕ) → starts is_letter bs ≡ true → list_all is_name_byte bs ≡ true → word_in bs ≡ None → stops is_name_byte (gap ++ rest) ≡ true → list_all is_blank gap ≡ true → stops is_skip rest ≡ true → IsPiece (called bs gap) rest
is_called bs gap rest letter all none stop blank solid = record {
  longest = λ text before e. name_piece text before bs (gap ++ rest) e letter all stop none;
  in_range = tt;
  blank = blank;
  solid = solid;
}

-- a number
pub is_number : (n : ℕ) (bs gap rest : List ℕ) → AreDigits n bs → n ≤ 2 ^ 31 → ends_number (gap ++ rest) ≡ true → list_all is_blank gap ≡ true → stops is_skip rest ≡ true → IsPiece (number n bs gap) rest
is_number n bs gap rest digits small ends blank solid = record {
  longest = λ text before e. whole_piece text before bs (gap ++ rest) e ends digits.all digits.some false (length before) n refl digits.value;
  in_range = fits n small;
  blank = blank;
  solid = solid;
}

-- its negation
pub is_minus : (n : ℕ) (bs gap rest : List ℕ) → AreDigits n bs → n ≤ 2 ^ 31 → ends_number (gap ++ rest) ≡ true → list_all is_blank gap ≡ true → stops is_skip rest ≡ true → IsPiece (minus n bs gap) rest
is_minus n bs gap rest digits small ends blank solid = record {
  longest = λ text before e.
      let more : length (before ++ 45 ∷ []) ≡ length before + 1 = length-append before (45 ∷ []) in
      let split : text ≡ (before ++ 45 ∷ []) ++ (bs ++ (gap ++ rest)) = e ∙ sym (append_assoc before (45 ∷ []) (bs ++ (gap ++ rest))) in
      let sign : IsSign true text (length before) (length (before ++ 45 ∷ [])) = subst (IsHere (45 ∷ []) text (length before)) (sym more) (placed text before (45 ∷ []) (bs ++ (gap ++ rest)) e) in
      let place : length (before ++ 45 ∷ []) + length bs ≡ length before + length (45 ∷ bs) = omega (arith, more) in
      subst (IsLongest (kind.Whole (neg_ℤ (pos n))) text (length before)) place (whole_piece text (before ++ 45 ∷ []) bs (gap ++ rest) split ends digits.all digits.some true (length before) n sign digits.value);
  in_range = fits_below n small;
  blank = blank;
  solid = solid;
}

-- a mark of one byte, whatever follows
pub is_mark : (mk : Mark) (c : ℕ) (gap rest : List ℕ) → mark_text mk ≡ c ∷ [] → class_of c ≡ other → ((t : Bool) → mark_in t c ≡ Some mk) → list_all is_blank gap ≡ true → stops is_skip rest ≡ true → IsPiece (mark mk gap) rest
is_mark mk c gap rest is class found blank solid = record {
  longest = λ text before e. mark_piece text before c [] (gap ++ rest) mk e is class (found (is_twice text (length before)));
  in_range = tt;
  blank = blank;
  solid = solid;
}

-- digits by their values
all_digits : (bs : List ℕ) → AllDigits 10 bs → list_all (is_digit_in 10) bs ≡ true
all_digits [] all = refl
all_digits (b ∷ bs) all =
    let first : is_digit_in 10 b ≡ true = is_below (digit_value b) 10 all.0 in
    let rest = all_digits bs all.1 in rw (first, rest) refl

-- a decimal
pub decimal_digits : (n : ℕ) → n ≤ 2 ^ 31 → AreDigits n (decimal n)
decimal_digits n small =
    let numeral = decimal_is_IsNumeral n (omega arith) in
    record { all = all_digits (decimal n) numeral.0.1; some = numeral.0.0; value = numeral.1 }

-- digits do not begin with a byte that passes where no digit does
pub digits_stop : (p : ℕ → Bool) (n : ℕ) (bs more rest : List ℕ) → ((b : ℕ) → is_digit_in 10 b ≡ true → p b ≡ false) → AreDigits n bs → stops p ((bs ++ more) ++ rest) ≡ true
digits_stop p n [] more rest no_digit digits = absurd (omega (arith, digits.some))
digits_stop p n (b ∷ bs) more rest no_digit digits = ap not (no_digit b (both_first (is_digit_in 10 b) (list_all (is_digit_in 10) bs) digits.all))

-- a digit is not skipped
digit_solid : (b : ℕ) → is_digit_in 10 b ≡ true → is_skip b ≡ false
digit_solid b e = let range = digit_range b e in grind (arith, nat_tests)

-- nor are decimals
pub decimal_solid : (n : ℕ) (more rest : List ℕ) → n ≤ 2 ^ 31 → stops is_skip ((decimal n ++ more) ++ rest) ≡ true
decimal_solid n more rest small = digits_stop is_skip n (decimal n) more rest digit_solid (decimal_digits n small)

-- a byte is itself
same_byte : (b c : ℕ) → b ≡ c → (b == c) ≡ true
same_byte b c e = grind (arith, nat_tests)

-- no byte stands twice where another follows it
not_twice : (text : List ℕ) (i : ℕ) (b : Bool) → is_twice text i ≡ b → (i + 1 < length text → slice_index text (i + 1) ≡ slice_index text i → ⊥) → is_twice text i ≡ false
not_twice text i true is differs = let both = told text i is in absurd (differs both.0 both.1)
not_twice text i false is differs = is

-- a mark of one byte, where another byte follows
pub is_single : (mk : Mark) (c : ℕ) (gap rest : List ℕ) → mark_text mk ≡ c ∷ [] → class_of c ≡ other → mark_in false c ≡ Some mk → stops (λ b. b == c) (gap ++ rest) ≡ true → list_all is_blank gap ≡ true → stops is_skip rest ≡ true → IsPiece (mark mk gap) rest
is_single mk c gap rest is class found stop blank solid = record {
  longest = λ text before e.
      let parts : text ≡ before ++ ((c ∷ []) ++ (gap ++ rest)) = e ∙ ap (λ bs. before ++ (bs ++ (gap ++ rest))) is in
      let here = (placed text before (c ∷ []) (gap ++ rest) parts).1 in
      let differs = λ (below : length before + 1 < length text) (same : slice_index text (length before + 1) ≡ slice_index text (length before)).
      false≢true (sym (next_stops (λ b. b == c) text before (c ∷ []) (gap ++ rest) parts stop below) ∙ same_byte _ c (same ∙ here)) in
      mark_piece text before c [] (gap ++ rest) mk e is class (ap (λ t. mark_in t c) (not_twice text (length before) (is_twice text (length before)) refl differs) ∙ found);
  in_range = tt;
  blank = blank;
  solid = solid;
}

-- a mark of one byte twice
pub is_double : (mk : Mark) (c : ℕ) (gap rest : List ℕ) → mark_text mk ≡ c ∷ c ∷ [] → class_of c ≡ other → mark_in true c ≡ Some mk → list_all is_blank gap ≡ true → stops is_skip rest ≡ true → IsPiece (mark mk gap) rest
is_double mk c gap rest is class found blank solid = record {
  longest = λ text before e.
      let parts : text ≡ before ++ ((c ∷ c ∷ []) ++ (gap ++ rest)) = e ∙ ap (λ bs. before ++ (bs ++ (gap ++ rest))) is in
      let here = placed text before (c ∷ c ∷ []) (gap ++ rest) parts in
      mark_piece text before c (c ∷ []) (gap ++ rest) mk e is class (ap (λ t. mark_in t c) (twice text (length before) here.2.0 (here.2.1 ∙ sym here.1)) ∙ found);
  in_range = tt;
  blank = blank;
  solid = solid;
}
