-- Annotation expressions, up to a depth. Parentheses and brackets add to it, braces do not.
use Rattle.std.specs.Prelude.{ℕ, zero, suc}
use Rattle.fzn_token.specs.declared.token.Word.TheVariants as word
use Rattle.fzn_token.specs.declared.token.Mark.TheVariants as mark
use Rattle.fzn_token.specs.declared.token.TokenKind.{TokenKind}
use Rattle.fzn_token.specs.declared.token.TokenKind.TheVariants as kind
use Rattle.fzn_item.specs.Productions.{Production, Gives, Nothing, ◌>>=◌, Or, IsAny, OneOf, IsMark, IsInteger, IsNotNext, IsAnyList}

-- forms of R in parentheses, or no parenthesis
abbrev pub Arguments : Production (Unit {0}) → Production (Unit {0})
Arguments R = Or
    (do
      _ ← IsMark mark.OpenParen
      IsAnyList R mark.CloseParen)
    (IsNotNext mark.OpenParen)

-- what follows an integer: `..` and an integer, or no `..`
abbrev pub RangeEnd : Production (Unit {0})
RangeEnd = Or
    (do
      _ ← IsMark mark.DotDot
      _ ← IsInteger
      Gives tt)
    (IsNotNext mark.DotDot)

-- what follows a float: `..` and a float, or no `..`
abbrev pub FloatRangeEnd : Production (Unit {0})
FloatRangeEnd = Or
    (do
      _ ← IsMark mark.DotDot
      _ ← OneOf kind.Float
      Gives tt)
    (IsNotNext mark.DotDot)

-- what follows the first token of a number, which is of this kind
abbrev pub NumberAfter : TokenKind → Production (Unit {0})
NumberAfter (kind.Whole value) = Gives tt
NumberAfter kind.Float = Gives tt
NumberAfter _ = Nothing

-- an integer or a float
abbrev pub IsNumber : Production (Unit {0})
IsNumber = do
  first ← IsAny
  NumberAfter first.kind

-- what follows an annotation expression's first token, where those in it are forms of R
abbrev pub InnerAfter : Production (Unit {0}) → TokenKind → Production (Unit {0})
InnerAfter R kind.Name = Arguments R
InnerAfter R (kind.Word word.True) = Gives tt
InnerAfter R (kind.Word word.False) = Gives tt
InnerAfter R (kind.Whole value) = RangeEnd
InnerAfter R kind.Float = FloatRangeEnd
InnerAfter R kind.Text = Gives tt
InnerAfter R (kind.Mark mark.OpenBrace) = IsAnyList IsNumber mark.CloseBrace
InnerAfter R (kind.Mark mark.OpenBracket) = IsAnyList R mark.CloseBracket
InnerAfter R _ = Nothing

-- an annotation expression of at most this depth
unfoldable pub IsInner : ℕ → Production (Unit {0})
IsInner zero = Nothing
IsInner (suc depth) = do
  first ← IsAny
  InnerAfter (IsInner depth) first.kind
