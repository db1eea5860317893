-- The longest token where a number begins.
use Rattle.std.proofs.Common.{◌≡◌, ℕ, ◌+◌, ◌<◌, ◌≤◌, Bool, true, false, List, length, ⊎_elim, arith, sym, ◌∙◌, refl, ap, inl, subst, lit<, zero, suc, ◌^◌}
use Rattle.std.specs.Prelude.{slice_index, FitsSigned}
use Rattle.std.specs.Int.{w64}
use Rattle.std.proofs.lemmas.Bool.{cases_lt, false≢true}
use Rattle.fzn_token.specs.declared.token.TokenKind.{TokenKind}
use Rattle.fzn_token.specs.declared.token.TokenKind.TheVariants as kind
use Rattle.fzn_token.specs.Bytes.{IsWholeRun, is_digit_in}
use Rattle.fzn_token.specs.Numbers.{IsDigits, IsNatural, IsSign, signed, IsTail}
use Rattle.fzn_token.specs.Tokens.{Spells, IsLongest}
use Rattle.fzn_token.proofs.Classes.{number, class_of, natural_begins, digits_begin, sign_begins, other_class}
use Rattle.fzn_token.proofs.NumberForms.{no_digit_at, same_sign, Form, of_whole, of_float}

module _ (text : List ℕ) (i start end : ℕ) (minus : Bool) (sign : IsSign minus text i start) (whole : IsWholeRun (is_digit_in 10) text start end) (some : start < end) (here : class_of (slice_index text i) ≡ number) where
  -- a token that begins here is an integer or a float behind the sign
  form_of : (k : TokenKind) (to : ℕ) → Spells k text i to → Form text start to
  form_of kind.Name to s = absurd (other_class kind.Name text i to number here (λ e. cc) s)
  form_of (kind.Word word) to s = absurd (other_class (kind.Word word) text i to number here (λ e. cc) s)
  form_of (kind.Whole z) to s =
      let same = same_sign s.minus minus text i s.start start s.sign sign (natural_begins s.natural).1 (whole.run.each start (omega arith) some) in
      of_whole s.n (subst (λ x. IsNatural text x to s.n) same s.natural)
  form_of kind.Float to s =
      let same = same_sign s.minus minus text i s.start start s.sign sign (digits_begin s.digits).1 (whole.run.each start (omega arith) some) in
      of_float s.middle (subst (λ x. IsDigits 10 text x s.middle) same s.digits) s.tail
  form_of kind.Text to s = absurd (other_class kind.Text text i to number here (λ e. cc) s)
  form_of (kind.Mark mark) to s = absurd (other_class (kind.Mark mark) text i to number here (λ e. cc) s)

  module _ (j : ℕ) (most : (to : ℕ) → Form text start to → to ≤ j) where
    -- an integer that is the longest form is the longest token
    pub whole_longest : (n : ℕ) → IsNatural text start j n → IsLongest (kind.Whole (signed minus n)) text i j
    whole_longest n natural = record {
      spelled = record { minus = minus; start = start; n = n; sign = sign; natural = natural; value = refl };
      longest = λ k to s. most to (form_of k to s);
    }

    -- a float that is the longest form is the longest token
    pub float_longest : IsTail text end j → IsLongest kind.Float text i j
    float_longest tail = record {
      spelled = record { minus = minus; start = start; middle = end; sign = sign; digits = record { some = some; run = whole.run }; tail = tail };
      longest = λ k to s. most to (form_of k to s);
    }

-- no number where no digit follows the `-`
module _ (text : List ℕ) (i : ℕ) (minus_here : IsSign true text i (i + 1)) (none : IsWholeRun (is_digit_in 10) text (i + 1) (i + 1)) where
  -- nothing with a digit behind its sign begins here
  no_digits : (minus : Bool) (start : ℕ) → IsSign minus text i start → (start < length text) × (is_digit_in 10 (slice_index text start) ≡ true) → ⊥
  no_digits false start sign first = no_digit_at (slice_index text start) 45 first.1 (ap (slice_index text) (sym sign) ∙ minus_here.1) (inl (lit< tt))
  no_digits true start sign first =
      let same : start ≡ i + 1 = sym sign.2 in
      false≢true (sym (none.stops (omega (arith, first.0))) ∙ ap (λ x. is_digit_in 10 (slice_index text x)) (sym same) ∙ first.1)

  -- the byte here has the class of numbers
  here_class : class_of (slice_index text i) ≡ number
  here_class = ap class_of minus_here.1

  -- no token begins here
  pub minus_alone : (k : TokenKind) (to : ℕ) → Spells k text i to → ⊥
  minus_alone kind.Name to s = other_class kind.Name text i to number here_class (λ e. cc) s
  minus_alone (kind.Word word) to s = other_class (kind.Word word) text i to number here_class (λ e. cc) s
  minus_alone (kind.Whole z) to s = no_digits s.minus s.start s.sign (natural_begins s.natural)
  minus_alone kind.Float to s = no_digits s.minus s.start s.sign (digits_begin s.digits)
  minus_alone kind.Text to s = other_class kind.Text text i to number here_class (λ e. cc) s
  minus_alone (kind.Mark mark) to s = other_class (kind.Mark mark) text i to number here_class (λ e. cc) s

-- an integer of 64 bits has a magnitude of 64 bits
pub magnitude_fits : (minus : Bool) (n : ℕ) → FitsSigned w64 (signed minus n) → n < 2 ^ 64
magnitude_fits false n fits = omega (arith, fits.sfits)
magnitude_fits true zero fits = lit< tt
magnitude_fits true (suc n) fits = omega (arith, fits.sfits)

-- a whole run of digits that begins with a digit has one
pub some_digits : (text : List ℕ) (i j : ℕ) → i < length text → is_digit_in 10 (slice_index text i) ≡ true → IsWholeRun (is_digit_in 10) text i j → i < j
some_digits text i j below digit whole = ⊎_elim (λ some. some) (λ none. let same : j ≡ i = omega (arith, whole.run.ordered) in absurd (false≢true (sym (whole.stops (omega arith)) ∙ ap (λ x. is_digit_in 10 (slice_index text x)) same ∙ digit))) (cases_lt i j)

-- a number begins with a byte of its class
pub number_class : (text : List ℕ) (i start end : ℕ) (minus : Bool) → IsSign minus text i start → IsWholeRun (is_digit_in 10) text start end → start < end → class_of (slice_index text i) ≡ number
number_class text i start end minus sign whole some = (sign_begins minus text i start sign (omega (arith, whole.run.within), whole.run.each start (omega arith) some)).1
