-- Tokens have some bytes, and lie within the text.
use Rattle.std.proofs.Common.{◌≡◌, ℕ, ◌+◌, ◌<◌, ◌≤◌, Bool, true, false, List, [], ◌∷◌, length, arith, lit<}
use Rattle.fzn_token.specs.declared.token.Word.{Word}
use Rattle.fzn_token.specs.declared.token.Word.TheVariants as w
use Rattle.fzn_token.specs.declared.token.Mark.{Mark}
use Rattle.fzn_token.specs.declared.token.Mark.TheVariants as m
use Rattle.fzn_token.specs.declared.token.TokenKind.{TokenKind}
use Rattle.fzn_token.specs.declared.token.TokenKind.TheVariants as kind
use Rattle.fzn_token.specs.Bytes.{IsHere}
use Rattle.fzn_token.specs.Numbers.{IsDigits, IsNatural, decimal, hexadecimal, octal, IsSign, IsTail, fraction, exponent, both}
use Rattle.fzn_token.specs.Quotes.{IsTextEnd, IsInside, nothing, plain, escaped}
use Rattle.fzn_token.specs.Words.{word_text, mark_text}
use Rattle.fzn_token.specs.Tokens.{Spells}
use Rattle.fzn_token.proofs.FloatTails.{exponent_start, fraction_digits, exponent_goes_on, exponent_some}
use Rattle.fzn_token.proofs.Literals.{here_ordered, here_within}
use Rattle.fzn_token.proofs.NumberForms.{prefix_is}

-- a tail takes some bytes
pub tail_goes_on : {text : List ℕ} {i j : ℕ} → IsTail text i j → i ≤ j
tail_goes_on {text} {i} {j} (fraction f) = let d = (fraction_digits f).1.some in omega arith
tail_goes_on {text} {i} {j} (exponent e) = exponent_goes_on e
tail_goes_on {text} {i} {j} (both k f e) = let d = (fraction_digits f).1.some in let more = exponent_goes_on e in omega arith

-- a token has some bytes, and lies within the text
pub record Extent (text : List ℕ) (i j : ℕ) : Type 0 where
  pub some : i < j
  pub within : j ≤ length text

-- literal bytes, at least one, have some bytes within the text
here_extent : (bs text : List ℕ) (i j : ℕ) → 0 < length bs → IsHere bs text i j → Extent text i j
here_extent [] text i j some h = (let no : ⊥ = omega arith in absurd no)
here_extent (b ∷ bs) text i j some h = record { some = (let more = here_ordered bs text (i + 1) j h.2 in omega arith); within = here_within (b ∷ bs) text i j (omega (arith, h.0)) h }

-- a sign before them changes nothing of this
sign_extent : (minus : Bool) (text : List ℕ) (i start j : ℕ) → IsSign minus text i start → Extent text start j → Extent text i j
sign_extent false text i start j sign e = record { some = omega (arith, e.some, sign); within = e.within }
sign_extent true text i start j sign e = record { some = (let step : i + 1 ≡ start = sign.2 in omega (arith, e.some)); within = e.within }

-- digits have some bytes within the text
digits_extent : {base : ℕ} {text : List ℕ} {i j : ℕ} → IsDigits base text i j → Extent text i j
digits_extent d = record { some = d.some; within = d.run.within }

-- a natural number has some bytes within the text
natural_extent : {text : List ℕ} {i j n : ℕ} → IsNatural text i j n → Extent text i j
natural_extent (decimal d v) = digits_extent d
natural_extent {text} {i} {j} {n} (hexadecimal k p v) = let d = digits_extent (prefix_is p).digits in record { some = omega (arith, d.some); within = d.within }
natural_extent {text} {i} {j} {n} (octal k p v) = let d = digits_extent (prefix_is p).digits in record { some = omega (arith, d.some); within = d.within }

-- a float's tail ends within the text
tail_within : {text : List ℕ} {i j : ℕ} → IsTail text i j → j ≤ length text
tail_within (fraction f) = (fraction_digits f).1.run.within
tail_within (exponent e) = (exponent_start e).digits.run.within
tail_within (both k f e) = (exponent_start e).digits.run.within

-- a text ends within the text
text_within : {text : List ℕ} {i j : ℕ} → IsTextEnd text i j → j ≤ length text
text_within {text} {i} {j} e = omega (arith, e.2.0, e.2.2)

-- what stands between quotes ends no earlier than it begins
inside_goes_on : {text : List ℕ} {i k : ℕ} → IsInside text i k → i ≤ k
inside_goes_on {text} {i} nothing = omega arith
inside_goes_on {text} {i} {k} (plain b p rest) = let more = inside_goes_on rest in omega arith
inside_goes_on {text} {i} {k} (escaped b p q rest) = let more = inside_goes_on rest in omega arith

-- a keyword has some bytes
word_some : (word : Word) → 0 < length (word_text word)
word_some w.Array = lit< tt
word_some w.Bool = lit< tt
word_some w.Constraint = lit< tt
word_some w.False = lit< tt
word_some w.Float = lit< tt
word_some w.Int = lit< tt
word_some w.Maximize = lit< tt
word_some w.Minimize = lit< tt
word_some w.Of = lit< tt
word_some w.Predicate = lit< tt
word_some w.Satisfy = lit< tt
word_some w.Set = lit< tt
word_some w.Solve = lit< tt
word_some w.True = lit< tt
word_some w.Var = lit< tt

-- a mark has some bytes
mark_some : (mark : Mark) → 0 < length (mark_text mark)
mark_some m.ColonColon = lit< tt
mark_some m.DotDot = lit< tt
mark_some m.Colon = lit< tt
mark_some m.Semicolon = lit< tt
mark_some m.Comma = lit< tt
mark_some m.Equals = lit< tt
mark_some m.OpenParen = lit< tt
mark_some m.CloseParen = lit< tt
mark_some m.OpenBracket = lit< tt
mark_some m.CloseBracket = lit< tt
mark_some m.OpenBrace = lit< tt
mark_some m.CloseBrace = lit< tt

-- each token has some bytes within the text
pub extent : (k : TokenKind) (text : List ℕ) (i j : ℕ) → Spells k text i j → Extent text i j
extent kind.Name text i j s = record { some = s.0.some; within = s.0.run.within }
extent (kind.Word word) text i j s = here_extent (word_text word) text i j (word_some word) s
extent (kind.Whole z) text i j s = sign_extent s.minus text i s.start j s.sign (natural_extent s.natural)
extent kind.Float text i j s = record { some = (let d = sign_extent s.minus text i s.start s.middle s.sign (digits_extent s.digits) in let t = tail_goes_on s.tail in omega (arith, d.some)); within = tail_within s.tail }
extent kind.Text text i j s = record { some = (let step : i + 1 ≡ s.0 = s.1.2 in let more = inside_goes_on s.2.1 in omega (arith, s.2.2.2)); within = text_within s.2 }
extent (kind.Mark mark) text i j s = here_extent (mark_text mark) text i j (mark_some mark) s

-- a float's tail has some bytes
pub tail_some : {text : List ℕ} {i j : ℕ} → IsTail text i j → i < j
tail_some {text} {i} {j} (fraction f) = let d = (fraction_digits f).1.some in omega arith
tail_some {text} {i} {j} (exponent e) = exponent_some e
tail_some {text} {i} {j} (both k f e) = let d = (fraction_digits f).1.some in let more = exponent_goes_on e in omega arith
