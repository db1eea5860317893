-- What readers of tokens answer.
use Rattle.std.specs.Prelude.{◌≡◌, ◌≤◌, ◌⊎◌, ◌-◌, ℕ, ℤ, ◌<◌, List, [], ◌∷◌, ◌++◌, length, Option, Some, None, Result, Ok, Err, FitsSigned}
use Rattle.std.specs.Int.{w64}
use Rattle.fzn_token.specs.Gaps.{IsGap}
use Rattle.fzn_token.specs.Tokens.{IsLongest, NothingBegins, IsToken, AreTokensTo, AreTokens}
use Rattle.fzn_token.specs.declared.token.TokenKind.TheVariants as kind
use Rattle.fzn_token.specs.declared.token.Token.{Token}
use Rattle.fzn_token.specs.declared.refusal.BadToken.{BadToken}
use Rattle.fzn_token.specs.declared.refusal.BadToken.TheVariants as bad
use Rattle.fzn_token.specs.declared.refusal.Refusal.{Refusal}
use Rattle.fzn_token.specs.declared.refusal.Refusal.TheVariants as refusal
use Rattle.fzn_token.specs.declared.refusal.ModelError.{ModelError}
use Rattle.fzn_token.specs.declared.refusal.ModelError.TheVariants as errors
use Rattle.fzn_token.specs.declared.token.Mark.TheVariants as mark
use Rattle.fzn_token.specs.declared.reader.TokenReader.{TokenReader}

-- these tokens and a gap lead to place at
pub record AreSoFar (text : List ℕ) (ts : List Token) (at : ℕ) : Type 0 where
  pub end : ℕ
  pub before : AreTokensTo text 0 ts end
  pub gap : IsGap text end at

-- place at comes after some tokens and a gap, and before the text's end
pub record IsReached (text : List ℕ) (at : ℕ) : Type 0 where
  pub tokens : List Token
  pub end : ℕ
  pub before : AreTokensTo text 0 tokens end
  pub gap : IsGap text end at
  pub within : at < length text

-- place at is the first that is refused, and no token begins there
pub record IsBad (text : List ℕ) (at : ℕ) : Type 0 where
  pub reached : IsReached text at
  pub nothing : NothingBegins text at

-- place at is the first that is refused, and its longest token is an integer outside 64 bits
pub record IsOutside (text : List ℕ) (at : ℕ) : Type 0 where
  pub reached : IsReached text at
  pub value : ℤ
  pub to : ℕ
  pub longest : IsLongest (kind.Whole value) text at to
  pub outside : FitsSigned w64 value → ⊥

-- the refusal of a text whose token is read so
abbrev pub refusal_of : BadToken → Refusal
refusal_of (bad.Lex at) = refusal.Lex at
refusal_of (bad.IntRange at) = refusal.IntRange at

-- what is read of a text, or why it is refused
abbrev pub told : {A : Type 0} → Result A BadToken → Result A ModelError
told (Ok a) = Ok a
told (Err bad) = Err (errors.Refused (refusal_of bad))

-- the answer for a whole text: its tokens, or the first place that is refused. Tokens are refused for nothing else
abbrev pub Answers : List ℕ → Result (List Token) ModelError → Type 0
Answers text (Ok ts) = AreTokens text ts
Answers text (Err (errors.Refused (refusal.Lex at))) = IsBad text at
Answers text (Err (errors.Refused (refusal.IntRange at))) = IsOutside text at
Answers text (Err (errors.Refused other)) = ⊥
Answers text (Err errors.Memory) = Unit {0}

-- the answer for one place, which never lacks memory
abbrev pub Reads : List ℕ → ℕ → Result Token ModelError → Type 0
Reads text i (Ok t) = (t.from ≡ i) × IsToken text t
Reads text i (Err (errors.Refused (refusal.Lex at))) = (at ≡ i) × NothingBegins text i
Reads text i (Err (errors.Refused (refusal.IntRange at))) = (at ≡ i) × ((z : ℤ) × (to : ℕ) × IsLongest (kind.Whole z) text i to × (FitsSigned w64 z → ⊥))
Reads text i (Err other) = ⊥

-- two answers for one text are the same, want of memory aside
abbrev pub HasOneAnswer : Type 0
HasOneAnswer = (text : List ℕ) (a b : Result (List Token) ModelError) → Answers text a → Answers text b → (a ≡ Err errors.Memory → ⊥) → (b ≡ Err errors.Memory → ⊥) → a ≡ b

-- the reader has read these tokens of this text, and the gap behind them
pub record IsBehind (text : List ℕ) (reader : TokenReader) (ts : List Token) : Type 0 where
  pub same : reader.text.now ≡ text
  pub so_far : AreSoFar text ts reader.at

-- how many bytes are not read yet
abbrev pub left : TokenReader → ℕ
left reader = length reader.text.now - reader.at

-- the whole text is read
abbrev pub IsAtEnd : TokenReader → Type 0
IsAtEnd reader = length reader.text.now ≤ reader.at

-- from the one reader to the other these tokens are read: the tokens so far and these are those of the text read so far
abbrev pub ReadsOn : TokenReader → List Token → TokenReader → Type 0
ReadsOn old us new = (text : List ℕ) (ts : List Token) → IsBehind text old ts → IsBehind text new (ts ++ us)

-- the text is refused so
abbrev pub Refuses : TokenReader → ModelError → Type 0
Refuses old e = (text : List ℕ) (ts : List Token) → IsBehind text old ts → Answers text (Err e)

-- the next token is read; or there is none; or the text is refused
abbrev pub TakesOne : TokenReader → TokenReader → Result (Option Token) ModelError → Type 0
TakesOne old new (Ok (Some t)) = ReadsOn old (t ∷ []) new × (left new < left old)
TakesOne old new (Ok None) = (new ≡ old) × IsAtEnd new
TakesOne old new (Err e) = Refuses old e

-- from the one reader to the other this token is read, and put behind the tokens before
pub record IsKept (old : TokenReader) (before after : List Token) (behind : TokenReader) (t : Token) : Type 0 where
  pub added : after ≡ before ++ t ∷ []
  pub read : ReadsOn old (t ∷ []) behind
  pub fewer : left behind < left old

-- these tokens are read, or the text is refused
abbrev pub TakesPiece : TokenReader → TokenReader → List Token → Result (Unit {0}) ModelError → Type 0
TakesPiece old new us (Ok u) = ReadsOn old us new
TakesPiece old new us (Err e) = Refuses old e

-- the tokens that are left are read, or the text is refused
abbrev pub TakesRest : TokenReader → Result (Unit {0}) ModelError → Type 0
TakesRest old (Ok u) = (us : List Token) × ((text : List ℕ) (ts : List Token) → IsBehind text old ts → AreTokens text (ts ++ us))
TakesRest old (Err e) = Refuses old e

-- one of these tokens is a `;`, and it is the last
abbrev pub IsPiece : List Token → Type 0
IsPiece [] = ⊥
IsPiece (t ∷ ts) = ((t.kind ≡ kind.Mark mark.Semicolon) × (ts ≡ [])) ⊎ ((t.kind ≡ kind.Mark mark.Semicolon → ⊥) × IsPiece ts)

-- none of these tokens is a `;`
abbrev pub IsOpen : List Token → Type 0
IsOpen [] = Unit {0}
IsOpen (t ∷ ts) = (t.kind ≡ kind.Mark mark.Semicolon → ⊥) × IsOpen ts

-- these tokens are read from the one reader to the other, and none is a `;`
pub record IsOpenTo (old : TokenReader) (us : List Token) (now : TokenReader) : Type 0 where
  pub read : ReadsOn old us now
  pub no_semicolon : IsOpen us
  pub no_more : left now ≤ left old
  pub fewer : (us ≡ [] → ⊥) → left now < left old

-- these tokens are read from the one reader up to a place, and none is a `;`. A reader behind the gap there has read them
abbrev pub IsOpenAt : TokenReader → List Token → ℕ → Type 0
IsOpenAt old us at = (now : TokenReader) → now.text.now ≡ old.text.now → IsGap old.text.now at now.at → IsOpenTo old us now

-- what was read ends with the first `;`, or has none and ends with the text
abbrev pub EndsPiece : TokenReader → List Token → Type 0
EndsPiece new us = IsPiece us ⊎ (IsOpen us × IsAtEnd new)
