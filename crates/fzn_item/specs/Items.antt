-- Items, and lists of them.
use Rattle.std.specs.Prelude.{◌≡◌, ℕ, ◌⊎◌, List, [], ◌∷◌, ◌++◌, Option, Some, None, Result, Ok, Err}
use Rattle.std.specs.Borrow.{Bor}
use Rattle.fzn_token.specs.declared.token.Token.{Token}
use Rattle.fzn_token.specs.declared.token.Word.TheVariants as word
use Rattle.fzn_token.specs.declared.token.Mark.TheVariants as mark
use Rattle.fzn_token.specs.declared.token.TokenKind.{TokenKind}
use Rattle.fzn_token.specs.declared.token.TokenKind.TheVariants as kind
use Rattle.fzn_item.specs.Productions.{Production, Gives, Nothing, ◌>>=◌, IsAny, IsMark, IsName, IsListOf, Fails}
use Rattle.fzn_item.specs.Exprs.{IsExpr, IsLastExpr}
use Rattle.fzn_item.specs.Marks.{AreAnnotations}
use Rattle.fzn_item.specs.Declarations.{IsDeclaration, IsArray}
use Rattle.fzn_token.specs.declared.refusal.Refusal.TheVariants as refusal
use Rattle.fzn_token.specs.declared.refusal.ModelError.{ModelError}
use Rattle.fzn_token.specs.declared.refusal.ModelError.TheVariants as errors
use Rattle.fzn_item.specs.declared.item.Goal.{Goal}
use Rattle.fzn_item.specs.declared.item.Goal.TheVariants as goals
use Rattle.fzn_item.specs.declared.item.Item.{Item}
use Rattle.fzn_item.specs.declared.item.Item.TheVariants as item

-- any tokens other than `;`, and a `;`
abbrev pub ToSemicolon : Production (Unit {0})
ToSemicolon [] v rest = ⊥
ToSemicolon (t ∷ ts) v rest = ((t.kind ≡ kind.Mark mark.Semicolon) × (rest ≡ ts)) ⊎ ((t.kind ≡ kind.Mark mark.Semicolon → ⊥) × ToSemicolon ts v rest)

-- a constraint, after its first word
abbrev pub IsConstraint : List ℕ → Token → Production Item
IsConstraint text first = do
  name ← IsName
  _ ← IsMark mark.OpenParen
  arguments ← IsListOf IsExpr mark.CloseParen
  _ ← AreAnnotations text
  _ ← IsMark mark.Semicolon
  Gives (item.Constraint first.from name.from name.to arguments)

-- what follows a goal's word t, which is of this kind
abbrev pub GoalAfter : TokenKind → Token → Production Goal
GoalAfter (kind.Word word.Satisfy) t = do
  _ ← IsMark mark.Semicolon
  Gives goals.Satisfy
GoalAfter (kind.Word word.Minimize) t = do
  what ← IsLastExpr
  Gives (goals.Minimize t.from what)
GoalAfter (kind.Word word.Maximize) t = do
  what ← IsLastExpr
  Gives (goals.Maximize t.from what)
GoalAfter _ t = Nothing

-- `satisfy`, or `minimize` or `maximize` and an expression; and the `;`
abbrev pub IsGoal : Production Goal
IsGoal = do
  first ← IsAny
  GoalAfter first.kind first

-- a solve item, after its first word
abbrev pub IsSolve : List ℕ → Token → Production Item
IsSolve text first = do
  _ ← AreAnnotations text
  goal ← IsGoal
  Gives (item.Solve first.from goal)

-- what follows an item's first word t, which is of this kind
abbrev pub ItemAfter : List ℕ → TokenKind → Token → Production Item
ItemAfter text (kind.Word word.Predicate) t = do
  _ ← ToSemicolon
  Gives (item.Predicate t.from)
ItemAfter text (kind.Word word.Var) t = IsDeclaration text t
ItemAfter text (kind.Word word.Bool) t = IsDeclaration text t
ItemAfter text (kind.Word word.Int) t = IsDeclaration text t
ItemAfter text (kind.Word word.Float) t = IsDeclaration text t
ItemAfter text (kind.Word word.Set) t = IsDeclaration text t
ItemAfter text (kind.Word word.Array) t = IsArray text t
ItemAfter text (kind.Word word.Constraint) t = IsConstraint text t
ItemAfter text (kind.Word word.Solve) t = IsSolve text t
ItemAfter text _ t = Nothing

-- an item, by its first word
abbrev pub IsItem : List ℕ → Production Item
IsItem text = do
  first ← IsAny
  ItemAfter text first.kind first

-- the tokens are these items in turn, and then rest
abbrev pub AreItemsTo : List ℕ → List Token → List Item → List Token → Type 0
AreItemsTo text ts [] rest = ts ≡ rest
AreItemsTo text ts (i ∷ is) rest = (middle : List Token) × IsItem text ts i middle × AreItemsTo text middle is rest

-- behind some items stands one that no production reads, and its first token is at this place
pub record IsUnread (text : List ℕ) (ts : List Token) (at : ℕ) : Type 0 where
  pub items : List Item
  pub first : Token
  pub rest : List Token
  pub before : AreItemsTo text ts items (first ∷ rest)
  pub fails : Fails (IsItem text) (first ∷ rest)
  pub place : at ≡ first.from

-- the answer for the tokens of a text: their items, or the first item that is not read. Items are refused for nothing else
abbrev pub Answers : List ℕ → List Token → Result (List Item) ModelError → Type 0
Answers text ts (Ok is) = AreItemsTo text ts is []
Answers text ts (Err (errors.Refused (refusal.Syntax at))) = IsUnread text ts at
Answers text ts (Err (errors.Refused other)) = ⊥
Answers text ts (Err errors.Memory) = Unit {0}

-- no production reads the item that these tokens begin with, and its first token is at this place
pub record IsNextUnread (text : List ℕ) (ts : List Token) (at : ℕ) : Type 0 where
  pub first : Token
  pub rest : List Token
  pub begins : ts ≡ first ∷ rest
  pub fails : Fails (IsItem text) ts
  pub place : at ≡ first.from

-- the next item of these tokens, and the tokens behind it; none where no token is left; or the place of an item that is not read
abbrev pub GivesNext : List ℕ → List Token → Result (Option (Item × Bor (List Token))) ModelError → Type 0
GivesNext text ts (Ok (Some x)) = IsItem text ts x.0 x.1.now
GivesNext text ts (Ok None) = ts ≡ []
GivesNext text ts (Err (errors.Refused (refusal.Syntax at))) = IsNextUnread text ts at
GivesNext text ts (Err (errors.Refused other)) = ⊥
GivesNext text ts (Err errors.Memory) = Unit {0}

-- two answers for one text are the same, want of memory aside
abbrev pub HasOneAnswer : Type 0
HasOneAnswer = (text : List ℕ) (ts : List Token) (a b : Result (List Item) ModelError) → Answers text ts a → Answers text ts b → (a ≡ Err errors.Memory → ⊥) → (b ≡ Err errors.Memory → ⊥) → a ≡ b

-- an item is the tokens up to the first `;` and with it: reading on is reading the pieces that are cut after each `;`
abbrev pub ItemsEndAtSemicolons : Type 0
ItemsEndAtSemicolons = (text : List ℕ) (ts : List Token) (i : Item) (rest : List Token) → IsItem text ts i rest → ToSemicolon ts tt rest

-- what is read as an item stays read, whatever follows
abbrev pub ItemsStayRead : Type 0
ItemsStayRead = (text : List ℕ) (ts : List Token) (i : Item) (rest more : List Token) → IsItem text ts i rest → IsItem text (ts ++ more) i (rest ++ more)

-- what is read as no item, and has a `;`, is none, whatever follows
abbrev pub RefusalsStay : Type 0
RefusalsStay = (text : List ℕ) (ts end more : List Token) → ToSemicolon ts tt end → Fails (IsItem text) ts → Fails (IsItem text) (ts ++ more)
