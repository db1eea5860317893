-- Whether a token is of a kind.
use Rattle.std.proofs.Common.{◌≡◌, ℕ, ◌⊎◌, inl, inr, List, length, Option, Some, refl, sym, ap, ◌∙◌}
use Rattle.std.specs.Prelude.{slice_index, nat_lt}
use Rattle.std.specs.Str.{bytes_eq}
use Rattle.std.proofs.lemmas.Bool.{cases_Bool, true≢false}
use Rattle.std.proofs.lemmas.Slice.Eq.{bytes_eq-Decides}
use Rattle.fzn_token.specs.declared.token.Word.{Word}
use Rattle.fzn_token.specs.declared.token.Mark.{Mark}
use Rattle.fzn_token.specs.declared.token.Mark.TheVariants as m
use Rattle.fzn_token.specs.declared.token.TokenKind.{TokenKind}
use Rattle.fzn_token.specs.declared.token.TokenKind.TheVariants as kind
use Rattle.fzn_token.specs.Words.{word_text, mark_text}
use Rattle.fzn_token.specs.Lookup.{word_in, mark_in}
use Rattle.fzn_token.proofs.Keywords.{word_in_text}

-- two lists of bytes are equal, or they are not
pub bytes_or_not : (xs ys : List ℕ) → (xs ≡ ys) ⊎ (xs ≡ ys → ⊥)
bytes_or_not xs ys = elim (cases_Bool (bytes_eq xs ys)) [
  | inl same ↦ inl ((bytes_eq-Decides xs ys).0 same)
  | inr differ ↦ inr (λ e. true≢false (sym ((bytes_eq-Decides xs ys).1 e) ∙ differ))
]

-- keywords that are written alike are the same
same_word : (a b : Word) → word_text a ≡ word_text b → a ≡ b
same_word a b h = let e : Some a ≡ Some b = sym (word_in_text a) ∙ ap word_in h ∙ word_in_text b in cc

word_or_not : (a b : Word) → (a ≡ b) ⊎ (a ≡ b → ⊥)
word_or_not a b = elim (bytes_or_not (word_text a) (word_text b)) [ inl same ↦ inl (same_word a b same) | inr differ ↦ inr (λ e. differ (ap word_text e)) ]

-- the mark that is written so
abbrev mark_of : List ℕ → Option Mark
mark_of bs = mark_in (nat_lt 1 (length bs)) (slice_index bs 0)

mark_of_text : (mark : Mark) → mark_of (mark_text mark) ≡ Some mark
mark_of_text m.ColonColon = refl
mark_of_text m.DotDot = refl
mark_of_text m.Colon = refl
mark_of_text m.Semicolon = refl
mark_of_text m.Comma = refl
mark_of_text m.Equals = refl
mark_of_text m.OpenParen = refl
mark_of_text m.CloseParen = refl
mark_of_text m.OpenBracket = refl
mark_of_text m.CloseBracket = refl
mark_of_text m.OpenBrace = refl
mark_of_text m.CloseBrace = refl

-- marks that are written alike are the same
same_mark : (a b : Mark) → mark_text a ≡ mark_text b → a ≡ b
same_mark a b h = let e : Some a ≡ Some b = sym (mark_of_text a) ∙ ap mark_of h ∙ mark_of_text b in cc

mark_or_not : (a b : Mark) → (a ≡ b) ⊎ (a ≡ b → ⊥)
mark_or_not a b = elim (bytes_or_not (mark_text a) (mark_text b)) [ inl same ↦ inl (same_mark a b same) | inr differ ↦ inr (λ e. differ (ap mark_text e)) ]

-- a token is of this kind, or it is not
abbrev pub IsOrNot : TokenKind → Type 0
IsOrNot l = (k : TokenKind) → (k ≡ l) ⊎ (k ≡ l → ⊥)

pub is_name : IsOrNot kind.Name
is_name kind.Name = inl refl
is_name (kind.Word w) = inr (λ e. cc)
is_name (kind.Whole z) = inr (λ e. cc)
is_name kind.Float = inr (λ e. cc)
is_name kind.Text = inr (λ e. cc)
is_name (kind.Mark mark) = inr (λ e. cc)

pub is_float : IsOrNot kind.Float
is_float kind.Name = inr (λ e. cc)
is_float (kind.Word w) = inr (λ e. cc)
is_float (kind.Whole z) = inr (λ e. cc)
is_float kind.Float = inl refl
is_float kind.Text = inr (λ e. cc)
is_float (kind.Mark mark) = inr (λ e. cc)

inner_word : (a b : Word) → kind.Word a ≡ kind.Word b → a ≡ b
inner_word a b e = cc

pub is_word : (word : Word) → IsOrNot (kind.Word word)
is_word word kind.Name = inr (λ e. cc)
is_word word (kind.Word w) = elim (word_or_not w word) [ inl same ↦ inl (ap kind.Word same) | inr differ ↦ inr (λ e. differ (inner_word w word e)) ]
is_word word (kind.Whole z) = inr (λ e. cc)
is_word word kind.Float = inr (λ e. cc)
is_word word kind.Text = inr (λ e. cc)
is_word word (kind.Mark mark) = inr (λ e. cc)

inner_mark : (a b : Mark) → kind.Mark a ≡ kind.Mark b → a ≡ b
inner_mark a b e = cc

pub is_mark : (mark : Mark) → IsOrNot (kind.Mark mark)
is_mark mark kind.Name = inr (λ e. cc)
is_mark mark (kind.Word w) = inr (λ e. cc)
is_mark mark (kind.Whole z) = inr (λ e. cc)
is_mark mark kind.Float = inr (λ e. cc)
is_mark mark kind.Text = inr (λ e. cc)
is_mark mark (kind.Mark other) = elim (mark_or_not other mark) [ inl same ↦ inl (ap kind.Mark same) | inr differ ↦ inr (λ e. differ (inner_mark other mark e)) ]
