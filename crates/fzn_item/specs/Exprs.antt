-- Atoms and expressions.
use Rattle.std.specs.Prelude.{ℤ, true, false}
use Rattle.fzn_token.specs.declared.token.Token.{Token}
use Rattle.fzn_token.specs.declared.token.Word.TheVariants as word
use Rattle.fzn_token.specs.declared.token.Mark.TheVariants as mark
use Rattle.fzn_token.specs.declared.token.TokenKind.{TokenKind}
use Rattle.fzn_token.specs.declared.token.TokenKind.TheVariants as kind
use Rattle.fzn_item.specs.Productions.{Production, Gives, Nothing, ◌>>=◌, Or, IsAny, IsMark, IsInteger, IsNotNext, IsListOf}
use Rattle.fzn_item.specs.declared.item.Atom.{Atom}
use Rattle.fzn_item.specs.declared.item.Atom.TheVariants as atom
use Rattle.fzn_item.specs.declared.item.Expr.{Expr}
use Rattle.fzn_item.specs.declared.item.Expr.TheVariants as expr

-- a range where `..` follows the integer, and else the integer
abbrev pub AtomFrom : Token → ℤ → Production Atom
AtomFrom t low = Or
    (do
      _ ← IsMark mark.DotDot
      high ← IsInteger
      Gives (atom.Range t.from low high))
    (do
      _ ← IsNotNext mark.DotDot
      Gives (atom.Whole t.from low))

-- what follows an atom's first token, which is of this kind
abbrev pub AtomAfter : TokenKind → Token → Production Atom
AtomAfter (kind.Word word.True) t = Gives (atom.Truth t.from true)
AtomAfter (kind.Word word.False) t = Gives (atom.Truth t.from false)
AtomAfter (kind.Whole value) t = AtomFrom t value
AtomAfter kind.Float t = Gives (atom.Float t.from)
AtomAfter kind.Name t = Gives (atom.Name t.from t.to)
AtomAfter (kind.Mark mark.OpenBrace) t = do
  values ← IsListOf IsInteger mark.CloseBrace
  Gives (atom.Listed t.from values)
AtomAfter _ t = Nothing

-- `true`, `false`, an integer, a float, a name, a range or a listed set
abbrev pub IsAtom : Production Atom
IsAtom = do
  first ← IsAny
  AtomAfter first.kind first

-- a list of atoms in brackets, or one atom
abbrev pub IsExpr : Production Expr
IsExpr = Or
    (do
      bracket ← IsMark mark.OpenBracket
      atoms ← IsListOf IsAtom mark.CloseBracket
      Gives (expr.List bracket.from atoms))
    (do
      one ← IsAtom
      Gives (expr.One one))

-- an expression, and the `;` that ends its item
abbrev pub IsLastExpr : Production Expr
IsLastExpr = do
  what ← IsExpr
  _ ← IsMark mark.Semicolon
  Gives what
