-- What is declared: the type of a parameter, or `var` and a base.
use Rattle.std.specs.Prelude.{true, false}
use Rattle.fzn_token.specs.declared.token.Word.TheVariants as word
use Rattle.fzn_token.specs.declared.token.Mark.TheVariants as mark
use Rattle.fzn_token.specs.declared.token.TokenKind.{TokenKind}
use Rattle.fzn_token.specs.declared.token.TokenKind.TheVariants as kind
use Rattle.fzn_item.specs.Productions.{Production, Gives, Nothing, ◌>>=◌, IsAny, OneOf, IsMark, IsWord, IsInteger, IsListOf}
use Rattle.fzn_item.specs.declared.item.Base.{Base}
use Rattle.fzn_item.specs.declared.item.Base.TheVariants as base
use Rattle.fzn_item.specs.declared.element.Element.{Element}

-- what follows the first token behind `set of`, which is of this kind
abbrev pub SetAfter : TokenKind → Production Base
SetAfter (kind.Word word.Int) = Gives base.Set
SetAfter (kind.Whole low) = do
  _ ← IsMark mark.DotDot
  _ ← IsInteger
  Gives base.Set
SetAfter (kind.Mark mark.OpenBrace) = do
  _ ← IsListOf IsInteger mark.CloseBrace
  Gives base.Set
SetAfter _ = Nothing

-- `int`, a range or a listed set, behind `set of`
abbrev pub IsSetElement : Production Base
IsSetElement = do
  first ← IsAny
  SetAfter first.kind

-- what follows a base's first token, which is of this kind
abbrev pub BaseAfter : TokenKind → Production Base
BaseAfter (kind.Word word.Bool) = Gives base.Bool
BaseAfter (kind.Word word.Int) = Gives base.Int
BaseAfter (kind.Word word.Float) = Gives base.Float
BaseAfter (kind.Word word.Set) = do
  _ ← IsWord word.Of
  IsSetElement
BaseAfter (kind.Whole low) = do
  _ ← IsMark mark.DotDot
  high ← IsInteger
  Gives (base.Range low high)
BaseAfter kind.Float = do
  _ ← IsMark mark.DotDot
  _ ← OneOf kind.Float
  Gives base.Float
BaseAfter (kind.Mark mark.OpenBrace) = do
  values ← IsListOf IsInteger mark.CloseBrace
  Gives (base.Listed values)
BaseAfter _ = Nothing

-- `bool`, `int`, `float`, a range, a listed set, a float range, or a form of `set of`
abbrev pub IsBase : Production Base
IsBase = do
  first ← IsAny
  BaseAfter first.kind

-- a variable with this base
abbrev pub variable : Base → Element
variable b = record { variable = true; base = b }

-- a parameter with this base
abbrev pub parameter : Base → Element
parameter b = record { variable = false; base = b }

-- what follows an element's first token, which is of this kind
abbrev pub ElementAfter : TokenKind → Production Element
ElementAfter (kind.Word word.Var) = do
  b ← IsBase
  Gives (variable b)
ElementAfter (kind.Word word.Bool) = Gives (parameter base.Bool)
ElementAfter (kind.Word word.Int) = Gives (parameter base.Int)
ElementAfter (kind.Word word.Float) = Gives (parameter base.Float)
ElementAfter (kind.Word word.Set) = do
  _ ← IsWord word.Of
  _ ← IsWord word.Int
  Gives (parameter base.Set)
ElementAfter _ = Nothing

-- `var` and a base, or the type of a parameter: `bool`, `int`, `float` or `set of int`
abbrev pub IsElement : Production Element
IsElement = do
  first ← IsAny
  ElementAfter first.kind
