-- Decimal numbers whose value is known once they are scanned.
use Rattle.std.proofs.Common.{◌≡◌, ℕ, ◌+◌, ◌-◌, ◌*◌, ◌<◌, ◌≤◌, Bool, true, false, List, length, take, drop, get_or, arith, sym, ◌∙◌, refl, ap, inr, lit≤, length-drop}
use Rattle.std.specs.Prelude.{slice_index, slice_range}
use Rattle.std.specs.Char.{digit_value}
use Rattle.std.specs.Str.Parse.{digits_value}
use Rattle.std.proofs.lemmas.Bool.{false_from_ne_true}
use Rattle.std.proofs.lemmas.Bool.Decides.{nat_tests}
use Rattle.std.proofs.lemmas.List.{get_or-drop}
use Rattle.fzn_token.specs.declared.class.Class.{Class}
use Rattle.fzn_token.specs.declared.class.Class.TheVariants as c
use Rattle.fzn_token.specs.declared.token.TokenKind.TheVariants as kind
use Rattle.fzn_token.specs.Bytes.{is_letter, is_digit_in, IsRun}
use Rattle.fzn_token.specs.Numbers.{IsSign, signed, decimal}
use Rattle.fzn_token.specs.Plain.{IsPlain}
use Rattle.fzn_token.specs.Tokens.{IsLongest}
use Rattle.fzn_token.specs.Classes as byte
use Rattle.fzn_token.proofs.Classes.{digit_range}
use Rattle.fzn_token.proofs.DigitValues.{value_more}
use Rattle.fzn_token.proofs.NumberForms.{no_prefix, plain_at_most, tail_start}
use Rattle.fzn_token.proofs.LongestNumbers.{number_class, whole_longest}

-- a byte that goes on with no number
pub record IsStop (b : ℕ) : Type 0 where
  pub no_digit : is_digit_in 10 b ≡ false
  pub no_letter : is_letter b ≡ false
  pub no_point : b ≡ 46 → ⊥

-- what has another class than a digit, a letter or `.` stops a number
pub stops : (b : ℕ) (class : Class) → class ≡ byte.class_of b → (class ≡ c.Digit → ⊥) → (class ≡ c.Letter → ⊥) → (class ≡ c.Twin → ⊥) → IsStop b
stops b class is no_digit no_letter no_twin =
    let plain : is_letter b ≡ false = false_from_ne_true (is_letter b) (λ e. no_letter (is ∙ rw e refl)) in
    record {
      no_digit = false_from_ne_true (is_digit_in 10 b) (λ e. no_digit (is ∙ rw (plain, e) refl));
      no_letter = plain;
      no_point = λ e. no_twin (is ∙ ap byte.class_of e);
    }

-- one more digit
pub digit_more : (text : List ℕ) (from at value d : ℕ) → from ≤ at → at < length text → is_digit_in 10 (slice_index text at) ≡ true → value ≡ digits_value 10 (slice_range text from at) → d ≡ slice_index text at - 48 → value * 10 + d ≡ digits_value 10 (slice_range text from (at + 1))
digit_more text from at value d ordered below digit so_far is =
    let range = digit_range (slice_index text at) digit in
    let steps : at + 1 - from ≡ at - from + 1 = omega arith in
    let here : get_or (drop from text) (at - from) 0 ≡ slice_index text at = get_or-drop from text (at - from) 0 ∙ (let same : from + (at - from) ≡ at = omega arith in ap (λ x. get_or text x 0) same) in
    let digit_is : digit_value (slice_index text at) ≡ slice_index text at - 48 = grind (arith, nat_tests) in
    let most : at - from < length (drop from text) = omega (arith, length-drop from text) in
    sym (ap (λ n. digits_value 10 (take n (drop from text))) steps ∙ value_more 10 (drop from text) (at - from) value 10 d most so_far refl (is ∙ sym digit_is ∙ sym (ap digit_value here)))

-- the digits so far, where nothing behind them goes on
pub plain_here : (text : List ℕ) (from at value : ℕ) → from < at → IsRun (is_digit_in 10) text from at → value ≡ digits_value 10 (slice_range text from at) → (at < length text → IsStop (slice_index text at)) → IsPlain text from at value
plain_here text from at value some run is stop = record {
  some = some;
  whole = record { run = run; stops = λ below. (stop below).no_digit };
  value = is;
  no_point = λ below. (stop below).no_point;
  no_letter = λ below. (stop below).no_letter;
}

-- digits with nothing behind them that goes on are the longest token behind their sign
pub plain_longest : (text : List ℕ) (i start j n : ℕ) (minus : Bool) → IsSign minus text i start → IsPlain text start j n → IsLongest (kind.Whole (signed minus n)) text i j
plain_longest text i start j n minus sign p =
    whole_longest text i start j minus sign p.whole p.some (number_class text i start j minus sign p.whole p.some) j
    (plain_at_most text start j p.whole
    (λ k to. no_prefix text start j p.whole 120 16 k to (inr (lit≤ tt)) refl p.some p.no_letter)
    (λ k to. no_prefix text start j p.whole 111 8 k to (inr (lit≤ tt)) refl p.some p.no_letter)
    (λ to t. tail_start text j to p.no_point p.no_letter t))
    n (decimal (record { some = p.some; run = p.whole.run }) p.value)
