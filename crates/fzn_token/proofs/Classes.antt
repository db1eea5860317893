-- The class of a token is that of its first byte.
use Rattle.std.proofs.Common.{◌≡◌, ℕ, ◌<◌, ◌≤◌, Bool, true, false, cond, List, length, arith, sym, ◌∙◌, refl, ap, subst}
use Rattle.std.specs.Prelude.{slice_index, ◌||◌, ◌==◌}
use Rattle.std.proofs.lemmas.Bool.Decides.{nat_tests}
use Rattle.fzn_token.specs.declared.token.Word.{Word}
use Rattle.fzn_token.specs.declared.token.Word.TheVariants as w
use Rattle.fzn_token.specs.declared.token.Mark.{Mark}
use Rattle.fzn_token.specs.declared.token.Mark.TheVariants as m
use Rattle.fzn_token.specs.declared.token.TokenKind.{TokenKind}
use Rattle.fzn_token.specs.declared.token.TokenKind.TheVariants as kind
use Rattle.fzn_token.specs.Bytes.{IsHere, is_letter, is_digit_in}
use Rattle.fzn_token.specs.Numbers.{IsDigits, IsNatural, decimal, hexadecimal, octal, IsSign}
use Rattle.fzn_token.specs.Words.{word_text, mark_text}
use Rattle.fzn_token.specs.Tokens.{Spells}

-- what the first byte of a token tells
pub data Class : Type 0 where
  letter : Class
  number : Class
  quote : Class
  other : Class

-- the class of a first byte
abbrev pub class_of : ℕ → Class
class_of b = cond (is_letter b) letter (cond (is_digit_in 10 b || b == 45) number (cond (b == 34) quote other))

-- the class of a kind of token
abbrev pub class_of_kind : TokenKind → Class
class_of_kind kind.Name = letter
class_of_kind (kind.Word w) = letter
class_of_kind (kind.Whole z) = number
class_of_kind kind.Float = number
class_of_kind kind.Text = quote
class_of_kind (kind.Mark m) = other

-- a byte of this class stands at place i
abbrev pub Begins : Class → List ℕ → ℕ → Type 0
Begins class text i = (i < length text) × (class_of (slice_index text i) ≡ class)

-- a letter has the class of letters
pub letter_class : (b : ℕ) → is_letter b ≡ true → class_of b ≡ letter
letter_class b e = rw e refl

-- a digit lies between 0 and 9
pub digit_range : (b : ℕ) → is_digit_in 10 b ≡ true → (48 ≤ b) × (b < 58)
digit_range b e = (grind (arith, nat_tests), grind (arith, nat_tests))

-- a digit is no letter
digit_no_letter : (b : ℕ) → 48 ≤ b → b < 58 → is_letter b ≡ false
digit_no_letter b low high = grind (arith, nat_tests)

-- a digit has the class of numbers
pub digit_class : (b : ℕ) → is_digit_in 10 b ≡ true → class_of b ≡ number
digit_class b e = let range = digit_range b e in rw (digit_no_letter b range.0 range.1, e) refl

-- a keyword begins with a letter
word_class : (word : Word) (text : List ℕ) (i j : ℕ) → IsHere (word_text word) text i j → Begins letter text i
word_class w.Array text i j h = (h.0, ap class_of h.1)
word_class w.Bool text i j h = (h.0, ap class_of h.1)
word_class w.Constraint text i j h = (h.0, ap class_of h.1)
word_class w.False text i j h = (h.0, ap class_of h.1)
word_class w.Float text i j h = (h.0, ap class_of h.1)
word_class w.Int text i j h = (h.0, ap class_of h.1)
word_class w.Maximize text i j h = (h.0, ap class_of h.1)
word_class w.Minimize text i j h = (h.0, ap class_of h.1)
word_class w.Of text i j h = (h.0, ap class_of h.1)
word_class w.Predicate text i j h = (h.0, ap class_of h.1)
word_class w.Satisfy text i j h = (h.0, ap class_of h.1)
word_class w.Set text i j h = (h.0, ap class_of h.1)
word_class w.Solve text i j h = (h.0, ap class_of h.1)
word_class w.True text i j h = (h.0, ap class_of h.1)
word_class w.Var text i j h = (h.0, ap class_of h.1)

-- a mark begins with a byte of the last class
mark_class : (mark : Mark) (text : List ℕ) (i j : ℕ) → IsHere (mark_text mark) text i j → Begins other text i
mark_class m.ColonColon text i j h = (h.0, ap class_of h.1)
mark_class m.DotDot text i j h = (h.0, ap class_of h.1)
mark_class m.Colon text i j h = (h.0, ap class_of h.1)
mark_class m.Semicolon text i j h = (h.0, ap class_of h.1)
mark_class m.Comma text i j h = (h.0, ap class_of h.1)
mark_class m.Equals text i j h = (h.0, ap class_of h.1)
mark_class m.OpenParen text i j h = (h.0, ap class_of h.1)
mark_class m.CloseParen text i j h = (h.0, ap class_of h.1)
mark_class m.OpenBracket text i j h = (h.0, ap class_of h.1)
mark_class m.CloseBracket text i j h = (h.0, ap class_of h.1)
mark_class m.OpenBrace text i j h = (h.0, ap class_of h.1)
mark_class m.CloseBrace text i j h = (h.0, ap class_of h.1)

-- digits begin with a digit
pub digits_begin : {base : ℕ} {text : List ℕ} {i j : ℕ} → IsDigits base text i j → (i < length text) × (is_digit_in base (slice_index text i) ≡ true)
digits_begin {i = i} d = (omega (arith, d.some, d.run.within), d.run.each i (omega arith) d.some)

-- a natural number begins with a digit
pub natural_begins : {text : List ℕ} {i j n : ℕ} → IsNatural text i j n → (i < length text) × (is_digit_in 10 (slice_index text i) ≡ true)
natural_begins (decimal d v) = digits_begin d
natural_begins (hexadecimal k p v) = (p.front_here.0, ap (is_digit_in 10) p.front_here.1)
natural_begins (octal k p v) = (p.front_here.0, ap (is_digit_in 10) p.front_here.1)

-- what begins with an optional sign and a digit has the class of numbers
pub sign_begins : (minus : Bool) (text : List ℕ) (i start : ℕ) → IsSign minus text i start → (start < length text) × (is_digit_in 10 (slice_index text start) ≡ true) → Begins number text i
sign_begins false text i start sign first = subst (λ x. Begins number text x) (sym sign) (first.0, digit_class (slice_index text start) first.1)
sign_begins true text i start sign first = (sign.0, ap class_of sign.1)

-- a token begins with a byte of its class
pub spelled_class : (k : TokenKind) (text : List ℕ) (i j : ℕ) → Spells k text i j → Begins (class_of_kind k) text i
spelled_class kind.Name text i j s = (omega (arith, s.0.some, s.0.run.within), letter_class (slice_index text i) s.0.first)
spelled_class (kind.Word word) text i j s = word_class word text i j s
spelled_class (kind.Whole z) text i j s = sign_begins s.minus text i s.start s.sign (natural_begins s.natural)
spelled_class kind.Float text i j s = sign_begins s.minus text i s.start s.sign (digits_begin s.digits)
spelled_class kind.Text text i j s = (s.1.0, ap class_of s.1.1)
spelled_class (kind.Mark mark) text i j s = mark_class mark text i j s

-- a byte that begins no other token has the last class
pub mark_byte : (b : ℕ) → is_letter b ≡ false → is_digit_in 10 b ≡ false → (b ≡ 45 → ⊥) → (b ≡ 34 → ⊥) → class_of b ≡ other
mark_byte b no_letter no_digit no_minus no_quote =
    let minus : (b == 45) ≡ false = grind (arith, nat_tests) in
    let quote_byte : (b == 34) ≡ false = grind (arith, nat_tests) in
    rw (no_letter, no_digit, minus, quote_byte) refl

-- a token of another class begins with another byte
pub other_class : (k : TokenKind) (text : List ℕ) (i j : ℕ) (class : Class) → class_of (slice_index text i) ≡ class → (class_of_kind k ≡ class → ⊥) → Spells k text i j → ⊥
other_class k text i j class here differs s = differs (sym (spelled_class k text i j s).1 ∙ here)
