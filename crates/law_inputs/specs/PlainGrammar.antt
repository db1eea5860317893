-- The grammar as plain alternatives, as the MiniZinc Handbook's chapter on FlatZinc has its productions: no form looks at what follows it.
use Rattle.std.specs.Prelude.{◌≡◌, ◌↔◌, ℕ, zero, suc, ℤ, true, false, List, [], ◌∷◌, Option, Some, None, codes}
use Rattle.fzn_token.specs.declared.token.Token.{Token}
use Rattle.fzn_token.specs.declared.token.TokenKind.TheVariants as kind
use Rattle.fzn_token.specs.declared.token.Mark.TheVariants as mark
use Rattle.fzn_token.specs.declared.token.Word.TheVariants as word
use Rattle.fzn_item.specs.declared.item.Atom.{Atom}
use Rattle.fzn_item.specs.declared.item.Atom.TheVariants as atom
use Rattle.fzn_item.specs.declared.item.Expr.{Expr}
use Rattle.fzn_item.specs.declared.item.Expr.TheVariants as expr
use Rattle.fzn_item.specs.declared.item.Base.{Base}
use Rattle.fzn_item.specs.declared.item.Base.TheVariants as base
use Rattle.fzn_item.specs.declared.item.Marked.{Marked}
use Rattle.fzn_item.specs.declared.item.Marked.TheVariants as marked
use Rattle.fzn_item.specs.declared.item.Goal.{Goal}
use Rattle.fzn_item.specs.declared.item.Goal.TheVariants as goals
use Rattle.fzn_item.specs.declared.item.Item.{Item}
use Rattle.fzn_item.specs.declared.item.Item.TheVariants as item
use Rattle.fzn_item.specs.Productions.{Production, Gives, Nothing, ◌>>=◌, Or, OneOf, IsMark, IsWord, IsName, IsInteger, IsListOf, IsAnyList}
use Rattle.fzn_item.specs.Marks.{first_mark, IsRange, IsRangeArgument}
use Rattle.fzn_item.specs.Items.{ToSemicolon, IsItem, AreItemsTo}
use Rattle.fzn_scope.specs.Names.{bytes_at}

-- ---- what productions are put together with

-- one of two productions
infixr 4 ◌or◌
abbrev pub ◌or◌ : {V : Type 0} → Production V → Production V → Production V
R or S = Or R S

-- a production, whose value is told by this function of it
infixl 8 ◌gives◌
abbrev pub ◌gives◌ : {A B : Type 0} → Production A → (A → B) → Production B
R gives f = R >>= (λ a. Gives (f a))

-- a form of R or nothing
abbrev pub Optional : {V : Type 0} → Production V → Production (Option V)
Optional R = R gives Some or Gives None

-- a form of R, and the place of its first token
abbrev pub At : {V : Type 0} → Production V → Production (ℕ × V)
At R [] v rest = ⊥
At R (t ∷ ts) v rest = (v.0 ≡ t.from) × R (t ∷ ts) v.1 rest

-- any number of forms of R, one after another
pub data IsRow {V : Type 0} (R : Production V) : List Token → List V → List Token → Type 0 where
  none : {ts rest : List Token} → rest ≡ ts → IsRow R ts [] rest
  more : {ts middle rest : List Token} {v : V} {vs : List V} → R ts v middle → IsRow R middle vs rest → IsRow R ts (v ∷ vs) rest

-- ---- expressions

-- `{v, .., v}`
abbrev pub PlainListed : Production (List ℤ)
PlainListed = do
  _ ← IsMark mark.OpenBrace
  IsListOf IsInteger mark.CloseBrace

-- `true`, `false`, an integer, a float, a name, a range or a listed set
abbrev pub PlainAtom : Production Atom
PlainAtom =
    IsWord word.True gives (λ t. atom.Truth t.from true)
    or IsWord word.False gives (λ t. atom.Truth t.from false)
    or At IsInteger gives (λ a. atom.Whole a.0 a.1)
    or OneOf kind.Float gives (λ t. atom.Float t.from)
    or IsName gives (λ t. atom.Name t.from t.to)
    or At IsRange gives (λ a. atom.Range a.0 a.1.0 a.1.1)
    or At PlainListed gives (λ a. atom.Listed a.0 a.1)

-- `[a, .., a]`
abbrev pub PlainAtoms : Production Expr
PlainAtoms = do
  bracket ← IsMark mark.OpenBracket
  atoms ← IsListOf PlainAtom mark.CloseBracket
  Gives (expr.List bracket.from atoms)

-- an atom, or a list of atoms in brackets
abbrev pub PlainExpr : Production Expr
PlainExpr = PlainAtom gives expr.One or PlainAtoms

-- ---- annotations

-- a form of R, whose value is not looked at
abbrev pub Skip : {V : Type 0} → Production V → Production (Unit {0})
Skip R = R gives (λ _. tt)

-- a range of floats
abbrev pub PlainFloatRange : Production Token
PlainFloatRange = do
  _ ← OneOf kind.Float
  _ ← IsMark mark.DotDot
  OneOf kind.Float

-- an integer or a float
abbrev pub PlainNumber : Production (Unit {0})
PlainNumber = Skip IsInteger or Skip (OneOf kind.Float)

-- `(r, .., r)` with forms of R
abbrev pub InParentheses : Production (Unit {0}) → Production (Unit {0})
InParentheses R = do
  _ ← IsMark mark.OpenParen
  IsAnyList R mark.CloseParen

-- `[r, .., r]` with forms of R
abbrev pub InBrackets : Production (Unit {0}) → Production (Unit {0})
InBrackets R = do
  _ ← IsMark mark.OpenBracket
  IsAnyList R mark.CloseBracket

-- `{n, .., n}` with numbers
abbrev pub PlainNumbers : Production (Unit {0})
PlainNumbers = do
  _ ← IsMark mark.OpenBrace
  IsAnyList PlainNumber mark.CloseBrace

-- a name with forms of R in parentheses
abbrev pub PlainCall : Production (Unit {0}) → Production (Unit {0})
PlainCall R = do
  _ ← IsName
  InParentheses R

-- an annotation expression, where those in it are forms of R
abbrev pub PlainInnerOf : Production (Unit {0}) → Production (Unit {0})
PlainInnerOf R =
    Skip IsName
    or PlainCall R
    or Skip (IsWord word.True)
    or Skip (IsWord word.False)
    or Skip IsInteger
    or Skip (OneOf kind.Float)
    or Skip (OneOf kind.Text)
    or Skip IsRange
    or Skip PlainFloatRange
    or PlainNumbers
    or InBrackets R

-- an annotation expression of at most this depth
unfoldable pub PlainInner : ℕ → Production (Unit {0})
PlainInner zero = Nothing
PlainInner (suc depth) = PlainInnerOf (PlainInner depth)

-- what stands behind an annotation's name: annotation expressions in parentheses or nothing. An annotation has depth at most 200
abbrev pub PlainArguments : Production (Unit {0})
PlainArguments = InParentheses (PlainInner 199) or Gives tt

-- the same, but no list of ranges
abbrev pub PlainOtherArguments : Production (Unit {0})
PlainOtherArguments ts v rest = PlainArguments ts v rest × ((ranges : List (ℤ × ℤ)) → IsRangeArgument ts ranges rest → ⊥)

-- a name that is written so
abbrev pub NameWritten : List ℕ → List ℕ → Production Token
NameWritten text bytes ts t rest = IsName ts t rest × (bytes_at text t.from t.to ≡ bytes)

-- a name that is neither of the two that mark what is printed
abbrev pub OtherName : List ℕ → Production Token
OtherName text ts t rest = IsName ts t rest × (bytes_at text t.from t.to ≡ codes "output_var" → ⊥) × (bytes_at text t.from t.to ≡ codes "output_array" → ⊥)

-- `output_array` with ranges
abbrev pub PlainOutputArray : List ℕ → Production Marked
PlainOutputArray text = do
  _ ← NameWritten text (codes "output_array")
  IsRangeArgument gives marked.Ranges

-- an annotation with such a name and such arguments
abbrev pub AnnotationOf : Production Token → Production (Unit {0}) → Production (Unit {0})
AnnotationOf Name Arguments = do
  _ ← Name
  Arguments

-- an annotation, with its mark
abbrev pub PlainAnnotation : List ℕ → Production Marked
PlainAnnotation text =
    NameWritten text (codes "output_var") gives (λ _. marked.Variable)
    or AnnotationOf (NameWritten text (codes "output_var")) (InParentheses (PlainInner 199)) gives (λ _. marked.Nothing)
    or PlainOutputArray text
    or AnnotationOf (NameWritten text (codes "output_array")) PlainOtherArguments gives (λ _. marked.Wrong)
    or AnnotationOf (OtherName text) PlainArguments gives (λ _. marked.Nothing)

-- `::` and an annotation
abbrev pub PlainNote : List ℕ → Production Marked
PlainNote text = do
  _ ← IsMark mark.ColonColon
  PlainAnnotation text

-- the first of these marks that says something
abbrev pub first_said : List Marked → Marked
first_said [] = marked.Nothing
first_said (m ∷ ms) = first_mark m (first_said ms)

-- any number of annotations, with the first mark among them
abbrev pub PlainAnnotations : List ℕ → Production Marked
PlainAnnotations text = IsRow (PlainNote text) gives first_said

-- ---- types

-- the type of a parameter: `bool`, `int`, `float` or `set of int`
abbrev pub PlainType : Production Base
PlainType =
    IsWord word.Bool gives (λ _. base.Bool)
    or IsWord word.Int gives (λ _. base.Int)
    or IsWord word.Float gives (λ _. base.Float)
    or (do _ ← IsWord word.Set; _ ← IsWord word.Of; _ ← IsWord word.Int; Gives base.Set)

-- `int`, a range or a listed set, behind `set of`
abbrev pub PlainSetElement : Production (Unit {0})
PlainSetElement = Skip (IsWord word.Int) or Skip IsRange or Skip PlainListed

-- `set of`, and what its sets are made of
abbrev pub PlainSetOf : Production (Unit {0})
PlainSetOf = do
  _ ← IsWord word.Set
  _ ← IsWord word.Of
  PlainSetElement

-- what variables are drawn from: `bool`, `int`, `float`, a range, a listed set, a range of floats, or a form of `set of`
abbrev pub PlainBase : Production Base
PlainBase =
    IsWord word.Bool gives (λ _. base.Bool)
    or IsWord word.Int gives (λ _. base.Int)
    or IsWord word.Float gives (λ _. base.Float)
    or IsRange gives (λ r. base.Range r.0 r.1)
    or PlainListed gives base.Listed
    or PlainFloatRange gives (λ _. base.Float)
    or PlainSetOf gives (λ _. base.Set)

-- ---- items

-- `:`, a name and annotations
abbrev pub PlainLabel : List ℕ → Production (Token × Marked)
PlainLabel text = do
  _ ← IsMark mark.Colon
  called_by ← IsName
  says ← PlainAnnotations text
  Gives (called_by, says)

-- `=` and an expression
abbrev pub PlainRight : Production Expr
PlainRight = do
  _ ← IsMark mark.Equals
  PlainExpr

-- `array [low..high] of`, with the word's place
abbrev pub PlainArrayOf : Production (ℕ × (ℤ × ℤ))
PlainArrayOf = do
  first ← IsWord word.Array
  _ ← IsMark mark.OpenBracket
  index ← IsRange
  _ ← IsMark mark.CloseBracket
  _ ← IsWord word.Of
  Gives (first.from, index)

-- `var` and a base
abbrev pub PlainVar : Production Base
PlainVar = do
  _ ← IsWord word.Var
  PlainBase

-- a parameter
abbrev pub PlainParameter : List ℕ → Production Item
PlainParameter text = do
  type ← At PlainType
  label ← PlainLabel text
  right ← PlainRight
  Gives (item.Declare type.0 false None type.1 label.0.from label.0.to label.1 (Some right))

-- an array of parameters
abbrev pub PlainParameterArray : List ℕ → Production Item
PlainParameterArray text = do
  array ← PlainArrayOf
  type ← PlainType
  label ← PlainLabel text
  right ← PlainRight
  Gives (item.Declare array.0 false (Some array.1) type label.0.from label.0.to label.1 (Some right))

-- a variable
abbrev pub PlainVariable : List ℕ → Production Item
PlainVariable text = do
  type ← At PlainVar
  label ← PlainLabel text
  right ← Optional PlainRight
  Gives (item.Declare type.0 true None type.1 label.0.from label.0.to label.1 right)

-- an array of variables
abbrev pub PlainVariableArray : List ℕ → Production Item
PlainVariableArray text = do
  array ← PlainArrayOf
  type ← PlainVar
  label ← PlainLabel text
  right ← PlainRight
  Gives (item.Declare array.0 true (Some array.1) type label.0.from label.0.to label.1 (Some right))

-- a constraint
abbrev pub PlainConstraint : List ℕ → Production Item
PlainConstraint text = do
  first ← IsWord word.Constraint
  called_by ← IsName
  _ ← IsMark mark.OpenParen
  arguments ← IsListOf PlainExpr mark.CloseParen
  _ ← PlainAnnotations text
  Gives (item.Constraint first.from called_by.from called_by.to arguments)

-- `minimize` and an expression
abbrev pub PlainMinimize : Production Goal
PlainMinimize = do
  first ← IsWord word.Minimize
  PlainExpr gives goals.Minimize first.from

-- `maximize` and an expression
abbrev pub PlainMaximize : Production Goal
PlainMaximize = do
  first ← IsWord word.Maximize
  PlainExpr gives goals.Maximize first.from

-- `satisfy`, or `minimize` or `maximize` and an expression
abbrev pub PlainGoal : Production Goal
PlainGoal = IsWord word.Satisfy gives (λ _. goals.Satisfy) or PlainMinimize or PlainMaximize

-- a solve item
abbrev pub PlainSolve : List ℕ → Production Item
PlainSolve text = do
  first ← IsWord word.Solve
  _ ← PlainAnnotations text
  PlainGoal gives item.Solve first.from

-- a predicate, whose tokens are not looked at up to its `;`
abbrev pub PlainPredicate : Production Item
PlainPredicate = do
  first ← IsWord word.Predicate
  _ ← ToSemicolon
  Gives (item.Predicate first.from)

-- a form of R and a `;`
abbrev pub Ended : {V : Type 0} → Production V → Production V
Ended R = do
  v ← R
  _ ← IsMark mark.Semicolon
  Gives v

-- an item
abbrev pub PlainItem : List ℕ → Production Item
PlainItem text =
    PlainPredicate
    or Ended (PlainParameter text)
    or Ended (PlainParameterArray text)
    or Ended (PlainVariable text)
    or Ended (PlainVariableArray text)
    or Ended (PlainConstraint text)
    or Ended (PlainSolve text)

-- ---- laws

-- Tokens begin with an item by the plain grammar exactly where they do by the one that looks ahead, and it is the same one.
abbrev pub ItemsAgree : Type 0
ItemsAgree = (text : List ℕ) (ts : List Token) (i : Item) (rest : List Token) → PlainItem text ts i rest ↔ IsItem text ts i rest

-- Tokens have these items by the plain grammar exactly where they have them by the one that looks ahead.
abbrev pub GrammarsAgree : Type 0
GrammarsAgree = (text : List ℕ) (ts : List Token) (is : List Item) → IsRow (PlainItem text) ts is [] ↔ AreItemsTo text ts is []
