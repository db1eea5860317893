-- Texts that differ only in what is ignored: blanks and comments between tokens, predicates, and annotations that are no marks.
use Rattle.std.specs.Prelude.{◌≡◌, ℕ, Bool, true, false, List, [], ◌∷◌, ◌++◌, Ok}
use Rattle.fzn_token.specs.declared.token.Token.{Token}
use Rattle.fzn_token.specs.declared.token.TokenKind.{TokenKind}
use Rattle.fzn_token.specs.declared.token.TokenKind.TheVariants as kind
use Rattle.fzn_token.specs.declared.token.Mark.TheVariants as mark
use Rattle.fzn_token.specs.declared.token.Word.TheVariants as word
use Rattle.fzn_token.specs.Tokens.{AreTokens}
use Rattle.fzn_item.specs.declared.item.Marked.{Marked}
use Rattle.fzn_item.specs.declared.item.Marked.TheVariants as marked
use Rattle.fzn_item.specs.Productions.{IsMark, Fails}
use Rattle.fzn_item.specs.Marks.{IsMarkedAnnotation}
use Rattle.fzn_item.specs.Items.{ToSemicolon}
use Rattle.dcsp_rule.specs.Problems.{Contents}
use Rattle.fzn_model.specs.Models.{Answers}
use Rattle.law_inputs.specs.Gapped.{AreAlike}

-- `::` and an annotation, with its mark. Behind it stands neither `(` nor `..`, which could be read with what stands before
pub record IsNote (text : List ℕ) (ts : List Token) (says : Marked) (rest : List Token) : Type 0 where
  pub colons : Token
  pub inside : List Token
  pub begins : IsMark mark.ColonColon ts colons inside
  pub annotation : IsMarkedAnnotation text inside says rest
  pub no_paren : Fails (IsMark mark.OpenParen) rest
  pub no_dots : Fails (IsMark mark.DotDot) rest

-- whether annotations can be marks in an item with this first token: those of constraints and solve items are none, whatever their names
abbrev pub can_mark : TokenKind → Bool
can_mark (kind.Word word.Constraint) = false
can_mark (kind.Word word.Solve) = false
can_mark _ = true

-- the tokens of an item, and like ones without some of its annotations, which are no marks. `marks` tells whether they can be
pub data NotesLeftOut (text other : List ℕ) (marks : Bool) : List Token → List Token → Type 0 where
  none : NotesLeftOut text other marks [] []
  kept : {t u : Token} {ts us : List Token} → AreAlike text other t u → NotesLeftOut text other marks ts us → NotesLeftOut text other marks (t ∷ ts) (u ∷ us)
  left_out : {ts rest us : List Token} {says : Marked} → IsNote text ts says rest → (marks ≡ true → says ≡ marked.Nothing) → NotesLeftOut text other marks rest us → NotesLeftOut text other marks ts us

-- the tokens of a text, and like ones of another without some predicates, and without some annotations that are no marks
pub data IgnoredLeftOut (text other : List ℕ) : List Token → List Token → Type 0 where
  none : IgnoredLeftOut text other [] []
  predicate : {first : Token} {ts rest us : List Token} → first.kind ≡ kind.Word word.Predicate → ToSemicolon ts tt rest → IgnoredLeftOut text other rest us → IgnoredLeftOut text other (first ∷ ts) us
  item : {first : Token} {ts rest us more : List Token} → ToSemicolon (first ∷ ts) tt [] → NotesLeftOut text other (can_mark first.kind) (first ∷ ts) us → IgnoredLeftOut text other rest more
      → IgnoredLeftOut text other ((first ∷ ts) ++ rest) (us ++ more)

-- the other text is this one without some of what is ignored
pub record IsWithout (text other : List ℕ) : Type 0 where
  pub tokens : List Token
  pub others : List Token
  pub lexed : AreTokens text tokens
  pub other_lexed : AreTokens other others
  pub left_out : IgnoredLeftOut text other tokens others

-- What is ignored can be left out: a text that has a problem has the same one without it.
abbrev pub IgnoredCanBeLeftOut : Type 0
IgnoredCanBeLeftOut = (text other : List ℕ) → IsWithout text other → (problem : Contents) → Answers text (Ok problem) → Answers other (Ok problem)

-- two texts have the same tokens, which stand in this third text, where what is ignored is left out of both
pub record DifferInIgnored (text other : List ℕ) : Type 0 where
  pub tokens : List Token
  pub others : List Token
  pub lexed : AreTokens text tokens
  pub other_lexed : AreTokens other others
  pub plain : List ℕ
  pub common : List Token
  pub left_out : IgnoredLeftOut text plain tokens common
  pub other_left_out : IgnoredLeftOut other plain others common

-- What is ignored changes nothing: where two texts that differ only in it both have a problem, it is the same one.
abbrev pub IgnoredChangesNothing : Type 0
IgnoredChangesNothing = (text other : List ℕ) → DifferInIgnored text other → (problem other_problem : Contents) → Answers text (Ok problem) → Answers other (Ok other_problem) → problem ≡ other_problem
