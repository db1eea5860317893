-- What the class of a byte tells.
use Rattle.std.proofs.Common.{◌≡◌, ℕ, ◌⊎◌, Bool, true, false, List, length, ◌+◌, ◌<◌, ◌≤◌, arith, sym, ◌∙◌, refl, ap, subst, ⊎_elim, inl, inr, Option, Some, None}
use Rattle.std.specs.Prelude.{⊤, MatchOption, slice_index, ◌==◌, ◌||◌}
use Rattle.std.proofs.lemmas.Bool.{cond_both, eqb-true, eqb-false, or_cases, or_parts, false_from_ne_true, false≢true}
use Rattle.fzn_token.specs.declared.token.Mark.{Mark}
use Rattle.fzn_token.specs.declared.class.Class.{Class}
use Rattle.fzn_token.specs.declared.class.Class.TheVariants as c
use Rattle.fzn_token.specs.Bytes.{is_blank, is_letter, is_digit_in, IsHere}
use Rattle.fzn_token.specs.Lookup.{mark_in}
use Rattle.fzn_token.specs.Words.{mark_text}
use Rattle.fzn_token.specs.Classes as byte
use Rattle.fzn_token.proofs.Classes.{other, class_of, mark_byte}
use Rattle.fzn_token.proofs.GapLaws.{gap_none, gap_whole}
use Rattle.fzn_token.specs.Gaps.{IsGap}
use Rattle.fzn_token.specs.declared.token.Mark.TheVariants as mark
use Rattle.fzn_token.specs.Tokens.{Spells, IsToken, IsLongest, NothingBegins}
use Rattle.fzn_token.specs.declared.token.Token.{Token}
use Rattle.fzn_token.specs.declared.token.TokenKind.TheVariants as kind
use Rattle.fzn_token.proofs.LongestMarks.{choose, mark_here, within, IsWithin, mark_missing}

-- no token begins with this byte
pub record IsNone (b : ℕ) : Type 0 where
  pub last : class_of b ≡ other
  pub none : (twice : Bool) → mark_in twice b ≡ None

-- a `:` or `.`
pub record IsTwin (b : ℕ) : Type 0 where
  pub last : class_of b ≡ other
  pub either : (b ≡ 58) ⊎ (b ≡ 46)

-- a mark of one byte
pub record IsOne (b : ℕ) (mark : Mark) : Type 0 where
  pub last : class_of b ≡ other
  pub found : (twice : Bool) → mark_in twice b ≡ Some mark
  pub one : length (mark_text mark) ≡ 1

-- what the class of a byte tells
abbrev pub Told : ℕ → Class → Type 0
Told b c.Letter = is_letter b ≡ true
Told b c.Digit = is_digit_in 10 b ≡ true
Told b c.Minus = b ≡ 45
Told b c.Quote = b ≡ 34
Told b c.Blank = IsNone b × (is_blank b ≡ true)
Told b c.Percent = IsNone b × (b ≡ 37)
Told b c.Twin = IsTwin b
Told b (c.Mark mark) = IsOne b mark
Told b c.Other = IsNone b

-- what holds of each blank
blank_cases : (P : ℕ → Type 0) → P 32 → P 9 → P 10 → P 13 → (b : ℕ) → is_blank b ≡ true → P b
blank_cases P space tab feed back b blank = ⊎_elim
    (λ three. ⊎_elim
    (λ two. ⊎_elim
    (λ e. subst P (sym (eqb-true b 32 e)) space)
    (λ e. subst P (sym (eqb-true b 9 e)) tab)
    (or_cases (b == 32) (b == 9) two))
    (λ e. subst P (sym (eqb-true b 10 e)) feed)
    (or_cases (b == 32 || b == 9) (b == 10) three))
    (λ e. subst P (sym (eqb-true b 13 e)) back)
    (or_cases ((b == 32 || b == 9) || b == 10) (b == 13) blank)

-- a blank begins no mark
blank_none : (b : ℕ) → is_blank b ≡ true → (twice : Bool) → mark_in twice b ≡ None
blank_none b blank twice = blank_cases (λ x. mark_in twice x ≡ None) refl refl refl refl b blank

-- a blank has its class
blank_class : (b : ℕ) → is_blank b ≡ true → byte.class_of b ≡ c.Blank
blank_class b blank = blank_cases (λ x. byte.class_of x ≡ c.Blank) refl refl refl refl b blank

-- a byte of another class is no blank and no `%`
pub not_skipped : (b : ℕ) (class : Class) → class ≡ byte.class_of b → (class ≡ c.Blank → ⊥) → (class ≡ c.Percent → ⊥) → (is_blank b ≡ false) × (b ≡ 37 → ⊥)
not_skipped b class is no_blank no_percent = (
  false_from_ne_true (is_blank b) (λ blank. no_blank (is ∙ blank_class b blank)),
  λ percent. no_percent (is ∙ ap byte.class_of percent),
)

-- a mark that is found where its byte stands once has one byte
one_byte : (b : ℕ) → MatchOption (mark_in false b) ⊤ (λ mark. length (mark_text mark) ≡ 1)
one_byte b =
    let P : Option Mark → Type 0 = λ o. MatchOption o ⊤ (λ mark. length (mark_text mark) ≡ 1) in
    choose b 58 P _ _ (λ _. refl) (
    choose b 46 P _ _ (λ _. tt) (
    choose b 59 P _ _ (λ _. refl) (
    choose b 44 P _ _ (λ _. refl) (
    choose b 61 P _ _ (λ _. refl) (
    choose b 40 P _ _ (λ _. refl) (
    choose b 41 P _ _ (λ _. refl) (
    choose b 91 P _ _ (λ _. refl) (
    choose b 93 P _ _ (λ _. refl) (
    choose b 123 P _ _ (λ _. refl) (
    choose b 125 P _ _ (λ _. refl) tt))))))))))

module _ (b : ℕ) where
  -- a byte that begins nothing else, and is no `:` or `.`
  single : class_of b ≡ other → (b == 58) ≡ false → (b == 46) ≡ false → (o : Option Mark) → mark_in false b ≡ o → Told b (byte.mark_class o)
  single last no_colon no_dot (Some mark) is = record {
    last = last;
    found = λ twice. (let same : mark_in twice b ≡ mark_in false b = rw (no_colon, no_dot) refl in same ∙ is);
    one = subst (λ o. MatchOption o ⊤ (λ m. length (mark_text m) ≡ 1)) is (one_byte b);
  }
  single last no_colon no_dot None is = record { last = last; none = λ twice. (let same : mark_in twice b ≡ mark_in false b = rw (no_colon, no_dot) refl in same ∙ is) }

  -- a byte that begins no name, number or text
  rest : class_of b ≡ other → (class : Class) → class ≡ byte.rest_class b → Told b class
  rest last class is = subst (Told b) (sym is) (
      cond_both (is_blank b) _ _ (Told b)
      (λ blank. (record { last = last; none = blank_none b blank }, blank))
      (λ _. cond_both (b == 37) _ _ (Told b)
      (λ percent. let at : b ≡ 37 = eqb-true b 37 percent in (record { last = last; none = λ twice. rw at refl }, at))
      (λ _. cond_both (b == 58 || b == 46) _ _ (Told b)
      (λ twin. record { last = last; either = ⊎_elim (λ colon. inl (eqb-true b 58 colon)) (λ dot. inr (eqb-true b 46 dot)) (or_cases (b == 58) (b == 46) twin) })
      (λ neither. let parts = or_parts (b == 58) (b == 46) neither in single last parts.0 parts.1 (mark_in false b) refl))))

  -- what the class of this byte tells
  pub told : (class : Class) → class ≡ byte.class_of b → Told b class
  told class is = subst (Told b) (sym is) (
      cond_both (is_letter b) _ _ (Told b) (λ letter. letter)
      (λ no_letter. cond_both (is_digit_in 10 b) _ _ (Told b) (λ digit. digit)
      (λ no_digit. cond_both (b == 45) _ _ (Told b) (eqb-true b 45)
      (λ no_minus. cond_both (b == 34) _ _ (Told b) (eqb-true b 34)
      (λ no_quote. rest (mark_byte b no_letter no_digit (eqb-false b 45 no_minus) (eqb-false b 34 no_quote)) (byte.rest_class b) refl)))))

-- a digit or a `-`
pub number_byte : (b : ℕ) (class : Class) → class ≡ byte.class_of b → (class ≡ c.Digit) ⊎ (class ≡ c.Minus) → (is_digit_in 10 b ≡ true) ⊎ (b ≡ 45)
number_byte b class is either = ⊎_elim (λ digit. inl (told b c.Digit (sym digit ∙ is))) (λ minus. inr (told b c.Minus (sym minus ∙ is))) either

-- neither is the class of a `;`
pub digit_other : (class : Class) → (class ≡ c.Digit) ⊎ (class ≡ c.Minus) → class ≡ c.Mark mark.Semicolon → ⊥
digit_other class either is = ⊎_elim (λ digit. cc) (λ minus. cc) either

pub twin_other : (class : Class) → (class ≡ c.Twin) ⊎ ((class ≡ c.Quote) ⊎ (class ≡ c.Other)) → class ≡ c.Mark mark.Semicolon → ⊥
twin_other class either is = ⊎_elim (λ twin. cc) (λ more. ⊎_elim (λ quote. cc) (λ last. cc) more) either

-- a blank or a `%`
pub gap_byte : (b : ℕ) (class : Class) → class ≡ byte.class_of b → (class ≡ c.Blank) ⊎ (class ≡ c.Percent) → (is_blank b ≡ true) ⊎ (b ≡ 37)
gap_byte b class is either = ⊎_elim (λ blank. inl (told b c.Blank (sym blank ∙ is)).1) (λ percent. inr (told b c.Percent (sym percent ∙ is)).1) either

-- a token that begins with another byte is no `;`
pub no_semicolon : (text : List ℕ) (t : Token) (class : Class) → IsToken text t → class ≡ byte.class_of (slice_index text t.from) → (class ≡ c.Mark mark.Semicolon → ⊥) → t.kind ≡ kind.Mark mark.Semicolon → ⊥
no_semicolon text t class token class_is differs is =
    let here = subst (λ k. Spells k text t.from t.to) is token.longest.spelled in
    differs (class_is ∙ ap byte.class_of here.1)

module _ (text : List ℕ) (i : ℕ) where
  -- a mark of one byte is the longest token
  pub one_longest : (mark : Mark) → i < length text → IsOne (slice_index text i) mark → IsLongest (kind.Mark mark) text i (i + 1)
  one_longest mark below one = record {
    spelled = subst (λ n. IsHere (mark_text mark) text i (i + n)) one.one
        (subst (λ o. MatchOption o ⊤ (λ m. IsHere (mark_text m) text i (i + length (mark_text m)))) (one.found false) (mark_here text i below false (λ e. absurd (false≢true e))));
    longest = λ k to s. (let most : to ≤ i + length (mark_text mark) = subst (IsWithin i to) (one.found true) (within text i one.last true (λ _. refl) k to s) in omega (arith, one.one));
  }

  -- where no token begins with the byte, none begins
  pub none_begins : IsNone (slice_index text i) → NothingBegins text i
  none_begins none = mark_missing text i none.last true (λ _. refl) (none.none true)

-- no gap stands where a token begins
pub token_stands : (text : List ℕ) (t : Token) → t.from < length text → IsToken text t → IsGap text t.from t.from
token_stands text t below token =
    let b = slice_index text t.from in
    let no_token : IsNone b → ⊥ = λ none. none_begins text t.from none t.kind t.to token.longest.spelled in
    gap_whole (gap_none (omega arith)) (λ _. not_skipped b (byte.class_of b) refl
    (λ blank. no_token (told b c.Blank (sym blank)).0)
    (λ percent. no_token (told b c.Percent (sym percent)).0))

-- nor where a byte of another class than those of gaps does
other_stands : (text : List ℕ) (i : ℕ) (class : Class) → i < length text → class ≡ byte.class_of (slice_index text i) → (class ≡ c.Blank → ⊥) → (class ≡ c.Percent → ⊥) → IsGap text i i
other_stands text i class below is no_blank no_percent = gap_whole (gap_none (omega arith)) (λ _. not_skipped (slice_index text i) class is no_blank no_percent)

pub digit_stands : (text : List ℕ) (i : ℕ) (class : Class) → i < length text → class ≡ byte.class_of (slice_index text i) → (class ≡ c.Digit) ⊎ (class ≡ c.Minus) → IsGap text i i
digit_stands text i class below is either = other_stands text i class below is
    (λ blank. ⊎_elim (λ digit. cc) (λ minus. cc) either)
    (λ percent. ⊎_elim (λ digit. cc) (λ minus. cc) either)

pub twin_stands : (text : List ℕ) (i : ℕ) (class : Class) → i < length text → class ≡ byte.class_of (slice_index text i) → (class ≡ c.Twin) ⊎ ((class ≡ c.Quote) ⊎ (class ≡ c.Other)) → IsGap text i i
twin_stands text i class below is either = other_stands text i class below is
    (λ blank. ⊎_elim (λ twin. cc) (λ more. ⊎_elim (λ quote. cc) (λ last. cc) more) either)
    (λ percent. ⊎_elim (λ twin. cc) (λ more. ⊎_elim (λ quote. cc) (λ last. cc) more) either)
