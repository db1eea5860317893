-- The tokens of a text: gaps and tokens in turn, each token the longest that begins at its place.
use Rattle.std.specs.Prelude.{◌≡◌, ℕ, ◌<◌, ◌≤◌, List, [], ◌∷◌, length, FitsSigned}
use Rattle.std.specs.Int.{w64}
use Rattle.fzn_token.specs.Bytes.{IsHere}
use Rattle.fzn_token.specs.Numbers.{IsInteger, IsFloat}
use Rattle.fzn_token.specs.Quotes.{IsQuoted}
use Rattle.fzn_token.specs.Words.{IsIdentifier, IsKeyword, word_text, mark_text}
use Rattle.fzn_token.specs.Gaps.{IsGap}
use Rattle.fzn_token.specs.declared.token.TokenKind.{TokenKind}
use Rattle.fzn_token.specs.declared.token.TokenKind.TheVariants as kind
use Rattle.fzn_token.specs.declared.token.Token.{Token}

-- a token of this kind is written from place i up to place j
abbrev pub Spells : TokenKind → List ℕ → ℕ → ℕ → Type 0
Spells kind.Name text i j = IsIdentifier text i j × (IsKeyword text i j → ⊥)
Spells (kind.Word w) text i j = IsHere (word_text w) text i j
Spells (kind.Whole z) text i j = IsInteger text i j z
Spells kind.Float text i j = IsFloat text i j
Spells kind.Text text i j = IsQuoted text i j
Spells (kind.Mark m) text i j = IsHere (mark_text m) text i j

-- the longest token that begins at place i is of this kind and ends at place j
pub record IsLongest (kind : TokenKind) (text : List ℕ) (i j : ℕ) : Type 0 where
  pub spelled : Spells kind text i j
  pub longest : (other : TokenKind) (to : ℕ) → Spells other text i to → to ≤ j

-- no token begins at place i
abbrev pub NothingBegins : List ℕ → ℕ → Type 0
NothingBegins text i = (kind : TokenKind) (j : ℕ) → Spells kind text i j → ⊥

-- an integer has 64 bits; nothing is asked of other kinds
abbrev pub IsInRange : TokenKind → Type 0
IsInRange (kind.Whole z) = FitsSigned w64 z
IsInRange _ = Unit {0}

-- t is the longest token at its place, and in range
pub record IsToken (text : List ℕ) (t : Token) : Type 0 where
  pub longest : IsLongest t.kind text t.from t.to
  pub in_range : IsInRange t.kind

-- from place i on, the text is gaps and these tokens in turn, the last of which ends at place j
abbrev pub AreTokensTo : List ℕ → ℕ → List Token → ℕ → Type 0
AreTokensTo text i [] j = i ≡ j
AreTokensTo text i (t ∷ ts) j = IsGap text i t.from × (t.from < length text) × IsToken text t × AreTokensTo text t.to ts j

-- the whole text is gaps and these tokens in turn
pub record AreTokens (text : List ℕ) (ts : List Token) : Type 0 where
  pub end : ℕ
  pub all : AreTokensTo text 0 ts end
  pub gap : IsGap text end (length text)
