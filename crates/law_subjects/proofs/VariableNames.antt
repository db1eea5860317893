-- The names of variables: a small letter and a number.
use Rattle.std.proofs.Common.{◌≡◌, ℕ, ◌≤◌, ◌^◌, true, false, List, [], ◌∷◌, ◌++◌, Option, Some, None, sym, refl, ap, ◌∙◌, arith}
use Rattle.std.specs.Prelude.{decimal, not}
use Rattle.std.specs.List.{list_all}
use Rattle.std.proofs.lemmas.Bool.{false≢true}
use Rattle.std.proofs.lemmas.Bool.Decides.{nat_tests}
use Rattle.fzn_token.specs.Bytes.{is_blank, is_letter, is_name_byte, is_digit_in}
use Rattle.fzn_token.specs.Words.{word_text}
use Rattle.fzn_token.specs.Lookup.{word_in}
use Rattle.fzn_token.specs.declared.token.Word.{Word}
use Rattle.fzn_token.specs.declared.token.Word.TheVariants as w
use Rattle.fzn_token.proofs.Classes.{digit_range}
use Rattle.fzn_token.proofs.Keywords.{word_found}
use Rattle.dcsp_gen.specs.Lines.{name}
use Rattle.law_subjects.proofs.Places.{stops}
use Rattle.law_subjects.proofs.Numbers.{both_first, both_second, digit_of_name}
use Rattle.law_subjects.proofs.Tokens.{starts}
use Rattle.law_subjects.proofs.Pieces.{IsPiece, is_skip}
use Rattle.law_subjects.proofs.PieceKinds.{called, is_called, decimal_digits}

-- what stands behind the first byte
abbrev behind : List ℕ → List ℕ
behind [] = []
behind (c ∷ cs) = cs

-- a keyword has a letter there
second_letter : (word : Word) → starts is_letter (behind (word_text word)) ≡ true
second_letter w.Array = refl
second_letter w.Bool = refl
second_letter w.Constraint = refl
second_letter w.False = refl
second_letter w.Float = refl
second_letter w.Int = refl
second_letter w.Maximize = refl
second_letter w.Minimize = refl
second_letter w.Of = refl
second_letter w.Predicate = refl
second_letter w.Satisfy = refl
second_letter w.Set = refl
second_letter w.Solve = refl
second_letter w.True = refl
second_letter w.Var = refl

-- by what the look-up finds
no_keyword_by : (b : ℕ) (bs : List ℕ) (o : Option Word) → word_in (b ∷ bs) ≡ o → starts is_letter bs ≡ false → word_in (b ∷ bs) ≡ None
no_keyword_by b bs None is none = is
no_keyword_by b bs (Some word) is none = absurd (false≢true (sym none ∙ ap (λ t. starts is_letter (behind t)) (word_found (b ∷ bs) word is) ∙ second_letter word))

-- no keyword has no letter there
pub no_keyword : (b : ℕ) (bs : List ℕ) → starts is_letter bs ≡ false → word_in (b ∷ bs) ≡ None
no_keyword b bs none = no_keyword_by b bs (word_in (b ∷ bs)) refl none

-- a digit is no letter
pub digit_no_letter : (b : ℕ) → is_digit_in 10 b ≡ true → is_letter b ≡ false
digit_no_letter b e = let range = digit_range b e in grind (arith, nat_tests)

-- digits begin with no letter
digits_no_letter : (bs : List ℕ) → list_all (is_digit_in 10) bs ≡ true → starts is_letter bs ≡ false
digits_no_letter [] all = refl
digits_no_letter (b ∷ bs) all = digit_no_letter b (both_first (is_digit_in 10 b) (list_all (is_digit_in 10) bs) all)

-- digits are bytes of names
pub digits_of_name : (bs : List ℕ) → list_all (is_digit_in 10) bs ≡ true → list_all is_name_byte bs ≡ true
digits_of_name [] all = refl
digits_of_name (b ∷ bs) all =
    let first = digit_of_name b (both_first (is_digit_in 10 b) (list_all (is_digit_in 10) bs) all) in
    let rest = digits_of_name bs (both_second (is_digit_in 10 b) (list_all (is_digit_in 10) bs) all) in rw (first, rest) refl

module _ (b : ℕ) (low : 97 ≤ b) (high : b ≤ 122) where
  -- a small letter is a letter
  small_letter : is_letter b ≡ true
  small_letter = grind (arith, nat_tests)

  -- a byte of names
  small_name : is_name_byte b ≡ true
  small_name = grind (arith, nat_tests)

  -- and is not skipped
  small_solid : is_skip b ≡ false
  small_solid = grind (arith, nat_tests)

  -- so no text that begins with it is
  pub letter_solid : not (is_skip b) ≡ true
  letter_solid = rw small_solid refl

  -- the letter alone is a name
  pub is_letter_name : (gap rest : List ℕ) → stops is_name_byte (gap ++ rest) ≡ true → list_all is_blank gap ≡ true → stops is_skip rest ≡ true → IsPiece (called (b ∷ []) gap) rest
  is_letter_name gap rest stop blank solid = is_called (b ∷ []) gap rest small_letter (rw small_name refl) (no_keyword b [] refl) stop blank solid

  -- so is the letter with a number behind it
  pub is_variable_name : (n : ℕ) (gap rest : List ℕ) → n ≤ 2 ^ 31 → stops is_name_byte (gap ++ rest) ≡ true → list_all is_blank gap ≡ true → stops is_skip rest ≡ true → IsPiece (called (name (b ∷ []) n) gap) rest
  is_variable_name n gap rest small stop blank solid =
      let digits = decimal_digits n small in
      let names = digits_of_name (decimal n) digits.all in
      is_called (b ∷ decimal n) gap rest small_letter (rw (small_name, names) refl) (no_keyword b (decimal n) (digits_no_letter (decimal n) digits.all)) stop blank solid
