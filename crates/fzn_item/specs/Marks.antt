-- Annotations, and what they say of output. An annotation has depth at most 200, so what stands in its
-- parentheses at most 199.
use Rattle.std.specs.Prelude.{◌≡◌, ℕ, ℤ, List, length, slice_range, codes, if◌then◌else◌, ◌||◌, nat_lt}
use Rattle.std.specs.Str.{bytes_eq}
use Rattle.fzn_token.specs.declared.token.Token.{Token}
use Rattle.fzn_token.specs.declared.token.Mark.TheVariants as mark
use Rattle.fzn_item.specs.Productions.{Production, Gives, ◌>>=◌, Or, IsMark, IsName, IsInteger, IsNotNext, IsListOf, IsAnyList, Fails}
use Rattle.fzn_item.specs.Annotations.{Arguments, IsInner}
use Rattle.fzn_item.specs.declared.item.Marked.{Marked}
use Rattle.fzn_item.specs.declared.item.Marked.TheVariants as marked
use Rattle.fzn_item.specs.declared.marking.Called.{Called}
use Rattle.fzn_item.specs.declared.marking.Called.TheVariants as name

-- how an annotation with this name is called; a token that does not lie in the text is called nothing
abbrev pub called : List ℕ → Token → Called
called text t =
    if nat_lt t.to t.from || nat_lt (length text) t.to then name.Other
    else (if bytes_eq (slice_range text t.from t.to) (codes "output_var") then name.OutputVar
    else (if bytes_eq (slice_range text t.from t.to) (codes "output_array") then name.OutputArray
    else name.Other))

-- the earlier mark, or the later one where the earlier says nothing
abbrev pub first_mark : Marked → Marked → Marked
first_mark marked.Nothing later = later
first_mark earlier later = earlier

-- a range of integers
abbrev pub IsRange : Production (ℤ × ℤ)
IsRange = do
  low ← IsInteger
  _ ← IsMark mark.DotDot
  high ← IsInteger
  Gives (low, high)

-- `([r, .., r])` with ranges of integers
abbrev pub IsRangeArgument : Production (List (ℤ × ℤ))
IsRangeArgument = do
  _ ← IsMark mark.OpenParen
  _ ← IsMark mark.OpenBracket
  ranges ← IsListOf IsRange mark.CloseBracket
  _ ← IsMark mark.CloseParen
  Gives ranges

-- other arguments than a list of ranges, or none
abbrev pub IsOtherArgument : Production (Unit {0})
IsOtherArgument ts v rest = Fails IsRangeArgument ts × Arguments (IsInner 199) ts v rest

-- what follows `output_array`, with its mark
abbrev pub ArrayEnd : Production Marked
ArrayEnd = Or
    (do
      ranges ← IsRangeArgument
      Gives (marked.Ranges ranges))
    (do
      _ ← IsOtherArgument
      Gives marked.Wrong)

-- what follows an annotation's name, with its mark
abbrev pub MarkedEnd : Called → Production Marked
MarkedEnd name.OutputVar = Or
    (do
      _ ← IsMark mark.OpenParen
      _ ← IsAnyList (IsInner 199) mark.CloseParen
      Gives marked.Nothing)
    (do
      _ ← IsNotNext mark.OpenParen
      Gives marked.Variable)
MarkedEnd name.OutputArray = ArrayEnd
MarkedEnd name.Other = do
  _ ← Arguments (IsInner 199)
  Gives marked.Nothing

-- an annotation, with its mark
abbrev pub IsMarkedAnnotation : List ℕ → Production Marked
IsMarkedAnnotation text = do
  called_by ← IsName
  MarkedEnd (called text called_by)

-- any number of annotations, each after a `::`, and no `::` behind them, with the first mark among them
pub data AreAnnotations (text : List ℕ) : List Token → Marked → List Token → Type 0 where
  none : {ts rest : List Token} {v : Marked} → v ≡ marked.Nothing → IsNotNext mark.ColonColon ts tt rest → AreAnnotations text ts v rest
  more : {ts rest : List Token} {v : Marked} (t : Token) (middle next : List Token) (m n : Marked) → v ≡ first_mark m n → IsMark mark.ColonColon ts t middle → IsMarkedAnnotation text middle m next → AreAnnotations text next n rest → AreAnnotations text ts v rest
