-- One stretch of bytes is a token of one kind.
use Rattle.std.proofs.Common.{◌≡◌, ℕ, ◌+◌, ◌<◌, ◌≤◌, ◌⊎◌, Bool, true, false, List, [], ◌∷◌, length, ⊎_elim, arith, sym, ◌∙◌, refl, ap, inl, inr, subst, Option, Some, None, lit<, lit≤}
use Rattle.std.specs.Prelude.{slice_index, slice_range, ℤ}
use Rattle.std.specs.Str.Parse.{digits_value}
use Rattle.std.proofs.lemmas.Bool.{cases_lt}
use Rattle.fzn_token.specs.declared.token.Word.{Word}
use Rattle.fzn_token.specs.declared.token.Mark.{Mark}
use Rattle.fzn_token.specs.declared.token.Mark.TheVariants as m
use Rattle.fzn_token.specs.declared.token.TokenKind.{TokenKind}
use Rattle.fzn_token.specs.declared.token.TokenKind.TheVariants as kind
use Rattle.fzn_token.specs.Bytes.{IsHere, is_digit_in}
use Rattle.fzn_token.specs.Numbers.{IsDigits, IsPrefixed, IsNatural, decimal, hexadecimal, octal, IsSign, signed, IsInteger, IsFloat, IsTail}
use Rattle.fzn_token.specs.Words.{word_text, mark_text}
use Rattle.fzn_token.specs.Lookup.{word_in, mark_in}
use Rattle.fzn_token.specs.Tokens.{Spells}
use Rattle.fzn_token.proofs.Literals.{here_range}
use Rattle.fzn_token.proofs.Keywords.{word_in_text}
use Rattle.fzn_token.proofs.Classes.{class_of_kind, spelled_class, natural_begins, digits_begin}
use Rattle.fzn_token.proofs.NumberForms.{Prefix, prefix_is, same_sign, no_digit_at, tail_not_at}
use Rattle.fzn_token.proofs.Extents.{tail_some, extent}

-- the mark that is written so
mark_back : List ℕ → Option Mark
mark_back [] = None
mark_back (b ∷ []) = mark_in false b
mark_back (b ∷ c ∷ cs) = mark_in true b

-- each mark is found by what is written
mark_back_text : (mark : Mark) → mark_back (mark_text mark) ≡ Some mark
unfolding mark_back
mark_back_text m.ColonColon = refl
mark_back_text m.DotDot = refl
mark_back_text m.Colon = refl
mark_back_text m.Semicolon = refl
mark_back_text m.Comma = refl
mark_back_text m.Equals = refl
mark_back_text m.OpenParen = refl
mark_back_text m.CloseParen = refl
mark_back_text m.OpenBracket = refl
mark_back_text m.CloseBracket = refl
mark_back_text m.OpenBrace = refl
mark_back_text m.CloseBrace = refl

-- one stretch of bytes is one keyword
same_word : (v w : Word) (text : List ℕ) (i j : ℕ) → i ≤ length text → IsHere (word_text v) text i j → IsHere (word_text w) text i j → v ≡ w
same_word v w text i j within p q =
    let same : Some v ≡ Some w = sym (word_in_text v) ∙ ap word_in (sym (here_range (word_text v) text i j within p) ∙ here_range (word_text w) text i j within q) ∙ word_in_text w in cc

-- one stretch of bytes is one mark
same_mark : (v w : Mark) (text : List ℕ) (i j : ℕ) → i ≤ length text → IsHere (mark_text v) text i j → IsHere (mark_text w) text i j → v ≡ w
same_mark v w text i j within p q =
    let same : Some v ≡ Some w = sym (mark_back_text v) ∙ ap mark_back (sym (here_range (mark_text v) text i j within p) ∙ here_range (mark_text w) text i j within q) ∙ mark_back_text w in cc

-- a sign is there or not
same_minus : (a b : Bool) (text : List ℕ) (i k l : ℕ) → IsSign a text i k → IsSign b text i l → is_digit_in 10 (slice_index text k) ≡ true → is_digit_in 10 (slice_index text l) ≡ true → a ≡ b
same_minus false false text i k l a b dk dl = refl
same_minus true true text i k l a b dk dl = refl
same_minus true false text i k l a b dk dl = absurd (no_digit_at _ 45 dl (ap (slice_index text) (sym b) ∙ a.1) (inl (lit< tt)))
same_minus false true text i k l a b dk dl = absurd (no_digit_at _ 45 dk (ap (slice_index text) (sym a) ∙ b.1) (inl (lit< tt)))

-- the digits of a prefixed number begin two bytes on
prefix_start : {c base : ℕ} {text : List ℕ} {i k j : ℕ} → IsPrefixed (48 ∷ c ∷ []) base text i k j → k ≡ i + 2
-- the digits of a prefixed number begin two bytes on
prefix_start {c} {base} {text} {i} {k} {j} p = let steps : i + 1 + 1 ≡ k = p.front_here.2.2 in omega arith

-- decimal digits have no letter at the second place
no_prefix : (c base : ℕ) (text : List ℕ) (i j : ℕ) → IsDigits 10 text i j → Prefix c base text i j → 58 ≤ c → ⊥
no_prefix c base text i j d p out = no_digit_at _ c (d.run.each (i + 1) (omega arith) (omega (arith, p.digits.some))) p.letter_here (inr out)

-- one stretch of bytes is one natural number
same_natural : {text : List ℕ} {i j n o : ℕ} → IsNatural text i j n → IsNatural text i j o → n ≡ o
same_natural (decimal d v) (decimal e w) = v ∙ sym w
same_natural {text} {i} {j} (decimal d v) (hexadecimal k p w) = absurd (no_prefix 120 16 text i j d (prefix_is p) (lit≤ tt))
same_natural {text} {i} {j} (decimal d v) (octal k p w) = absurd (no_prefix 111 8 text i j d (prefix_is p) (lit≤ tt))
same_natural {text} {i} {j} (hexadecimal k p v) (decimal e w) = absurd (no_prefix 120 16 text i j e (prefix_is p) (lit≤ tt))
same_natural {text} {i} {j} (hexadecimal k p v) (hexadecimal l q w) = v ∙ ap (λ x. digits_value 16 (slice_range text x j)) (prefix_start p ∙ sym (prefix_start q)) ∙ sym w
-- one stretch of bytes is one natural number
same_natural {text} {i} {j} (hexadecimal k p v) (octal l q w) = (let x = (prefix_is p).letter_here in let o = (prefix_is q).letter_here in let no_way : ⊥ = omega arith in absurd no_way)
same_natural {text} {i} {j} (octal k p v) (decimal e w) = absurd (no_prefix 111 8 text i j e (prefix_is p) (lit≤ tt))
-- one stretch of bytes is one natural number
same_natural {text} {i} {j} (octal k p v) (hexadecimal l q w) = (let o = (prefix_is p).letter_here in let x = (prefix_is q).letter_here in let no_way : ⊥ = omega arith in absurd no_way)
same_natural {text} {i} {j} (octal k p v) (octal l q w) = v ∙ ap (λ x. digits_value 8 (slice_range text x j)) (prefix_start p ∙ sym (prefix_start q)) ∙ sym w

-- no natural number is a float
prefix_no_float : (c base : ℕ) (text : List ℕ) (i middle j : ℕ) → (c ≡ 120) ⊎ (c ≡ 111) → Prefix c base text i j → IsDigits 10 text i middle → IsTail text middle j → ⊥
prefix_no_float c base text i middle j which p d t = ⊎_elim
    (λ longer. no_digit_at _ c (d.run.each (i + 1) (omega arith) longer) p.letter_here (⊎_elim (λ x. inr (omega arith)) (λ o. inr (omega arith)) which))
    (λ not_longer.
    let at_end : middle ≡ i + 1 = omega (arith, d.some) in
    let here : slice_index text middle ≡ c = ap (slice_index text) at_end ∙ p.letter_here in
    tail_not_at t (inr (⊎_elim (λ x. inl (here ∙ x)) (λ o. inr (here ∙ o)) which)))
    (cases_lt (i + 1) middle)

-- a natural number is no float
no_float : {text : List ℕ} {i middle j n : ℕ} → IsNatural text i j n → IsDigits 10 text i middle → IsTail text middle j → middle < j → ⊥
no_float {text} {i} {middle} {j} (decimal e v) d t some = tail_not_at t (inl (e.run.each middle (omega (arith, d.some)) some))
no_float {text} {i} {middle} {j} (hexadecimal k p v) d t some = prefix_no_float 120 16 text i middle j (inl refl) (prefix_is p) d t
no_float {text} {i} {middle} {j} (octal k p v) d t some = prefix_no_float 111 8 text i middle j (inr refl) (prefix_is p) d t

-- one stretch of bytes is one integer
same_integer : (text : List ℕ) (i j : ℕ) (y z : ℤ) → IsInteger text i j y → IsInteger text i j z → y ≡ z
same_integer text i j y z p q =
    let dp = (natural_begins p.natural).1 in
    let dq = (natural_begins q.natural).1 in
    let start = same_sign p.minus q.minus text i p.start q.start p.sign q.sign dp dq in
    let minus = same_minus p.minus q.minus text i p.start q.start p.sign q.sign dp dq in
    let number = same_natural (subst (λ x. IsNatural text x j p.n) start p.natural) q.natural in
    p.value ∙ (λ k. signed (minus k) (number k)) ∙ sym q.value

-- an integer is no float
integer_no_float : (text : List ℕ) (i j : ℕ) (z : ℤ) → IsInteger text i j z → IsFloat text i j → ⊥
integer_no_float text i j z p f =
    let start = same_sign p.minus f.minus text i p.start f.start p.sign f.sign (natural_begins p.natural).1 (digits_begin f.digits).1 in
    no_float (subst (λ x. IsNatural text x j p.n) start p.natural) f.digits f.tail (tail_some f.tail)

-- one stretch of bytes is a token of one kind
class_same : (k l : TokenKind) (text : List ℕ) (i j to : ℕ) → Spells k text i j → Spells l text i to → class_of_kind k ≡ class_of_kind l
class_same k l text i j to p q = sym (spelled_class k text i j p).1 ∙ (spelled_class l text i to q).1

-- one stretch of bytes is a token of one kind
pub same_kind : (k l : TokenKind) (text : List ℕ) (i j : ℕ) → Spells k text i j → Spells l text i j → k ≡ l
same_kind kind.Name kind.Name text i j p q = refl
same_kind kind.Name (kind.Word w) text i j p q = absurd (p.1 (w, q))
same_kind (kind.Word w) kind.Name text i j p q = absurd (q.1 (w, p))
same_kind (kind.Word v) (kind.Word w) text i j p q = ap kind.Word (same_word v w text i j (let e = extent (kind.Word v) text i j p in omega (arith, e.some, e.within)) p q)
same_kind (kind.Whole y) (kind.Whole z) text i j p q = ap kind.Whole (same_integer text i j y z p q)
same_kind (kind.Whole y) kind.Float text i j p q = absurd (integer_no_float text i j y p q)
same_kind kind.Float (kind.Whole z) text i j p q = absurd (integer_no_float text i j z q p)
same_kind kind.Float kind.Float text i j p q = refl
same_kind kind.Text kind.Text text i j p q = refl
same_kind (kind.Mark v) (kind.Mark w) text i j p q = ap kind.Mark (same_mark v w text i j (let e = extent (kind.Mark v) text i j p in omega (arith, e.some, e.within)) p q)
same_kind k l text i j p q = (let clash = class_same k l text i j j p q in cc)
