-- Items and expressions that are lent from their tokens, and what they stand for.
use Rattle.std.specs.Prelude.{◌≡◌, ℕ, List, [], length, Option, Some, None, Result, Ok, Err}
use Rattle.std.specs.Borrow.{Bor}
use Rattle.fzn_token.specs.declared.token.Token.{Token}
use Rattle.fzn_token.specs.declared.token.Mark.TheVariants as mark
use Rattle.fzn_token.specs.declared.token.Word.TheVariants as word
use Rattle.fzn_token.specs.declared.token.TokenKind.TheVariants as kind
use Rattle.fzn_item.specs.Productions.{Production, OneOf, IsMark, IsListOf, Fails}
use Rattle.fzn_item.specs.Exprs.{IsAtom, IsExpr}
use Rattle.fzn_item.specs.Items.{IsItem, GivesNext}
use Rattle.fzn_item.specs.declared.item.Expr.{Expr}
use Rattle.fzn_item.specs.declared.item.Item.{Item}
use Rattle.fzn_item.specs.declared.item.Item.TheVariants as item
use Rattle.fzn_token.specs.declared.refusal.ModelError.{ModelError}
use Rattle.fzn_item.specs.declared.lent.LentArguments.{LentArguments}
use Rattle.fzn_item.specs.declared.lent.LentConstraint.{LentConstraint}
use Rattle.fzn_item.specs.declared.lent.LentItem.{LentItem}
use Rattle.fzn_item.specs.declared.lent.LentItem.TheVariants as lent
use Rattle.fzn_item.specs.declared.lent.LentExpr.{LentExpr}
use Rattle.fzn_item.specs.declared.lent.LentExpr.TheVariants as expr
use Rattle.fzn_item.specs.declared.single.Stop.{Stop}
use Rattle.fzn_item.specs.declared.single.Stop.TheVariants as stop

-- the lent arguments are these expressions
pub record AreArguments (arguments : LentArguments) (exprs : List Expr) : Type 0 where
  pub rest : List Token
  pub read : IsListOf IsExpr mark.CloseParen arguments.tokens.now exprs rest
  pub count : length exprs ≡ arguments.count

-- they are some expressions
abbrev pub IsLent : LentArguments → Type 0
IsLent arguments = (exprs : List Expr) × AreArguments arguments exprs

-- a lent constraint is this item
abbrev pub IsThatConstraint : LentConstraint → Item → Type 0
IsThatConstraint c i = (exprs : List Expr) × AreArguments c.arguments exprs × (i ≡ item.Constraint c.at c.name_at c.name_to exprs)

-- an item is no constraint
abbrev pub IsOther : Item → Type 0
IsOther (item.Constraint at name_at name_to arguments) = ⊥
IsOther _ = Unit {0}

-- what is lent stands for this item
abbrev pub StandsFor : LentItem → Item → Type 0
StandsFor (lent.Constraint c) i = IsThatConstraint c i
StandsFor (lent.Other other) i = (i ≡ other) × IsOther other

-- a reader of a production, whose answer stands for the item that is read
abbrev pub ReadsAs : {V : Type 0} → (V → Item → Type 0) → Production Item → List Token → Result (V × Bor (List Token)) Stop → Type 0
ReadsAs S R ts (Ok x) = (i : Item) × R ts i x.1.now × S x.0 i
ReadsAs S R ts (Err stop.Unread) = Fails R ts
ReadsAs S R ts (Err stop.Memory) = Unit {0}

-- the next item of these tokens, lent, and the tokens behind it; none where no token is left; or the place of an item that is not read
abbrev pub GivesLent : List ℕ → List Token → Result (Option (LentItem × Bor (List Token))) ModelError → Type 0
GivesLent text ts (Ok (Some x)) = (i : Item) × IsItem text ts i x.1.now × StandsFor x.0 i
GivesLent text ts (Ok None) = ts ≡ []
GivesLent text ts (Err e) = GivesNext text ts (Err e)

-- the constraint that these tokens begin with, lent; none where their first word is another; or the place of an item that is not read
abbrev pub GivesConstraint : List ℕ → List Token → Result (Option LentConstraint) ModelError → Type 0
GivesConstraint text ts (Ok (Some c)) = (i : Item) × (rest : List Token) × IsItem text ts i rest × IsThatConstraint c i
GivesConstraint text ts (Ok None) = Fails (OneOf (kind.Word word.Constraint)) ts
GivesConstraint text ts (Err e) = GivesNext text ts (Err e)

-- the tokens begin with this expression: with the atom, or with the bracket of a list
abbrev pub IsLentExpr : List Token → LentExpr → Type 0
IsLentExpr ts (expr.One atom behind) = IsAtom ts atom behind.now
IsLentExpr ts (expr.List at inside) = (bracket : Token) × IsMark mark.OpenBracket ts bracket inside.now × (at ≡ bracket.from)
