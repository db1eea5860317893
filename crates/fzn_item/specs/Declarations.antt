-- Parameters, variables and arrays of them.
use Rattle.std.specs.Prelude.{ℕ, ℤ, Bool, true, false, ◌&&◌, List, Option, Some, None, is_none}
use Rattle.fzn_token.specs.declared.token.Token.{Token}
use Rattle.fzn_token.specs.declared.token.Word.TheVariants as word
use Rattle.fzn_token.specs.declared.token.Mark.TheVariants as mark
use Rattle.fzn_item.specs.Productions.{Production, Gives, Nothing, ◌>>=◌, Or, IsMark, IsWord, IsName}
use Rattle.fzn_item.specs.Exprs.{IsLastExpr}
use Rattle.fzn_item.specs.Marks.{IsRange, AreAnnotations}
use Rattle.fzn_item.specs.Elements.{ElementAfter, IsElement}
use Rattle.fzn_item.specs.declared.item.Expr.{Expr}
use Rattle.fzn_item.specs.declared.item.Item.{Item}
use Rattle.fzn_item.specs.declared.item.Item.TheVariants as item
use Rattle.fzn_item.specs.declared.element.Element.{Element}

-- `=` and an expression
abbrev pub IsRight : Production (Option Expr)
IsRight = do
  _ ← IsMark mark.Equals
  right ← IsLastExpr
  Gives (Some right)

-- no right side, where it may be missing
abbrev pub NoRight : Bool → Production (Option Expr)
NoRight true = do
  _ ← IsMark mark.Semicolon
  Gives None
NoRight false = Nothing

-- the right side and the `;`, where the right side may be missing or not
abbrev pub RightSide : Bool → Production (Option Expr)
RightSide optional = Or IsRight (NoRight optional)

-- `:`, a name, annotations and the right side, which only a variable that is no array may lack
abbrev pub IsNamed : List ℕ → ℕ → Option (ℤ × ℤ) → Element → Production Item
IsNamed text at index element = do
  _ ← IsMark mark.Colon
  name ← IsName
  says ← AreAnnotations text
  right ← RightSide (element.variable && is_none index)
  Gives (item.Declare at element.variable index element.base name.from name.to says right)

-- a parameter or variable, after its first word
abbrev pub IsDeclaration : List ℕ → Token → Production Item
IsDeclaration text first = do
  element ← ElementAfter first.kind
  IsNamed text first.from None element

-- an array of parameters or variables, after its first word
abbrev pub IsArray : List ℕ → Token → Production Item
IsArray text first = do
  _ ← IsMark mark.OpenBracket
  index ← IsRange
  _ ← IsMark mark.CloseBracket
  _ ← IsWord word.Of
  element ← IsElement
  IsNamed text first.from (Some index) element
