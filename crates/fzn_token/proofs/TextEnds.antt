-- The ends of texts between quotes.
use Rattle.std.proofs.Common.{◌≡◌, ℕ, ◌+◌, ◌<◌, ◌≤◌, true, false, List, length, arith, sym, ◌∙◌, refl}
use Rattle.std.specs.Prelude.{slice_index}
use Rattle.std.proofs.lemmas.Bool.{false≢true}
use Rattle.std.proofs.lemmas.Bool.Decides.{nat_tests}
use Rattle.fzn_token.specs.Bytes.{is_plain}
use Rattle.fzn_token.specs.Quotes.{IsInside, nothing, plain, escaped, IsTextEnd}

-- what the first byte of a text's inside is
pub data Step (text : List ℕ) (i j : ℕ) : Type 0 where
  closes : i < length text → slice_index text i ≡ 34 → i + 1 ≡ j → Step text i j
  goes_on : i < length text → is_plain (slice_index text i) ≡ true → IsTextEnd text (i + 1) j → Step text i j
  escapes : i + 1 < length text → slice_index text i ≡ 92 → (slice_index text (i + 1) ≡ 10 → ⊥) → IsTextEnd text (i + 2) j → Step text i j

-- the first byte decides, by the form of the inside
step_of : {text : List ℕ} {i k : ℕ} (j : ℕ) → IsInside text i k → k < length text → slice_index text k ≡ 34 → k + 1 ≡ j → Step text i j
step_of j nothing below quote end = closes below quote end
step_of j (plain within passes rest) below quote end = goes_on within passes (_, rest, (below, quote, end))
step_of j (escaped within slash not_feed rest) below quote end = escapes within slash not_feed (_, rest, (below, quote, end))

-- the first byte decides
pub step : {text : List ℕ} {i j : ℕ} → IsTextEnd text i j → Step text i j
step {j = j} e = step_of j e.1 e.2.0 e.2.1 e.2.2

-- a byte that is not plain is none under another name
not_plain : (b c : ℕ) → is_plain b ≡ true → b ≡ c → is_plain c ≡ false → ⊥
not_plain b c passes is not = false≢true (sym not ∙ (rw is at passes))

-- the text ends at a quote
pub end_here : {text : List ℕ} {i : ℕ} → i < length text → slice_index text i ≡ 34 → IsTextEnd text i (i + 1)
end_here {i = i} below quote = (i, nothing, (below, quote, refl))

-- a plain byte before it
pub end_plain : {text : List ℕ} {i j : ℕ} → i < length text → is_plain (slice_index text i) ≡ true → IsTextEnd text (i + 1) j → IsTextEnd text i j
end_plain below passes e = (e.0, plain below passes e.1, e.2)

-- a `\` and its byte before it
pub end_escaped : {text : List ℕ} {i j : ℕ} → i + 1 < length text → slice_index text i ≡ 92 → (slice_index text (i + 1) ≡ 10 → ⊥) → IsTextEnd text (i + 2) j → IsTextEnd text i j
end_escaped below slash not_feed e = (e.0, escaped below slash not_feed e.1, e.2)

-- a quote under another name
quote_is : (b c : ℕ) → b ≡ c → b ≡ 34 → c ≡ 34
quote_is b c e h = sym e ∙ h

-- the text goes on after a plain byte
pub after_plain : {text : List ℕ} {i j : ℕ} → is_plain (slice_index text i) ≡ true → IsTextEnd text i j → IsTextEnd text (i + 1) j
after_plain {text} {i} {j} passes e = elim (step e) [
  | closes _ quote _ ↦ absurd (not_plain _ 34 passes quote refl)
  | goes_on _ _ rest ↦ rest
  | escapes _ slash _ _ ↦ absurd (not_plain _ 92 passes slash refl)
]

-- the text goes on after a `\` and its byte
pub after_slash : {text : List ℕ} {i j : ℕ} → slice_index text i ≡ 92 → IsTextEnd text i j → (i + 1 < length text) × (slice_index text (i + 1) ≡ 10 → ⊥) × IsTextEnd text (i + 2) j
after_slash {text} {i} {j} slash e = elim (step e) [
  | closes _ quote _ ↦ (let no : ⊥ = omega arith in absurd no)
  | goes_on _ passes _ ↦ absurd (not_plain _ 92 passes slash refl)
  | escapes below _ not_feed rest ↦ (below, not_feed, rest)
]

-- no text goes over a line feed
pub not_at_feed : {text : List ℕ} {i j : ℕ} → slice_index text i ≡ 10 → IsTextEnd text i j → ⊥
not_at_feed {text} {i} {j} feed e = elim (step e) [
  | closes _ quote _ ↦ omega arith
  | goes_on _ passes _ ↦ not_plain _ 10 passes feed refl
  | escapes _ slash _ _ ↦ omega arith
]

-- no text ends past the bytes
pub not_past : {text : List ℕ} {i j : ℕ} → length text ≤ i → IsTextEnd text i j → ⊥
not_past {text} {i} {j} past e = elim (step e) [
  | closes below _ _ ↦ omega arith
  | goes_on below _ _ ↦ omega arith
  | escapes below _ _ _ ↦ omega arith
]

-- at a quote the text ends
pub at_quote : {text : List ℕ} {i j : ℕ} → slice_index text i ≡ 34 → IsTextEnd text i j → i + 1 ≡ j
at_quote {text} {i} {j} here e = elim (step e) [
  | closes _ _ end ↦ end
  | goes_on _ passes _ ↦ absurd (not_plain _ 34 passes here refl)
  | escapes _ slash _ _ ↦ (let no : ⊥ = omega arith in absurd no)
]

-- a text ends at one place
same_end_of : {text : List ℕ} {i k j to : ℕ} → IsInside text i k → k < length text → slice_index text k ≡ 34 → k + 1 ≡ j → IsTextEnd text i to → j ≡ to
same_end_of nothing below quote end other = sym end ∙ at_quote quote other
same_end_of (plain within passes rest) below quote end other = same_end_of rest below quote end (after_plain passes other)
same_end_of (escaped within slash not_feed rest) below quote end other = same_end_of rest below quote end (after_slash slash other).2

-- the same of any two ends
pub same_end : {text : List ℕ} {i j to : ℕ} → IsTextEnd text i j → IsTextEnd text i to → j ≡ to
same_end e other = same_end_of e.1 e.2.0 e.2.1 e.2.2 other

-- a byte that is none of the three is plain
pub is_plain_byte : (b : ℕ) → (b ≡ 34 → ⊥) → (b ≡ 92 → ⊥) → (b ≡ 10 → ⊥) → is_plain b ≡ true
is_plain_byte b a c d = grind (arith, nat_tests)
