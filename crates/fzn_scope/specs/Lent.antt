-- What readers of lent arguments leave and answer.
use Rattle.std.specs.Prelude.{◌≡◌, List, Result, Ok, Err}
use Rattle.std.specs.Borrow.{Bor}
use Rattle.fzn_token.specs.declared.token.Token.{Token}
use Rattle.fzn_token.specs.declared.token.Mark.TheVariants as mark
use Rattle.fzn_item.specs.declared.item.Atom.{Atom}
use Rattle.fzn_item.specs.declared.lent.LentArguments.{LentArguments}
use Rattle.fzn_item.specs.Productions.{IsListOf}
use Rattle.fzn_item.specs.Exprs.{IsAtom, IsExpr}
use Rattle.fzn_item.specs.Lent.{AreArguments}
use Rattle.dcsp_rule.specs.declared.rule.Rule.{Rule}
use Rattle.dcsp_rule.specs.declared.lent.RuleRef.{RuleRef}
use Rattle.dcsp_rule.specs.Lent.{lent_rule}
use Rattle.fzn_token.specs.declared.refusal.Refusal.{Refusal}
use Rattle.fzn_token.specs.declared.refusal.ModelError.{ModelError}
use Rattle.fzn_item.specs.declared.item.Expr.{Expr}
use Rattle.fzn_scope.specs.declared.form.Place.{Place}
use Rattle.fzn_scope.specs.declared.lists.ArgumentLists.{ArgumentLists}
use Rattle.fzn_scope.specs.declared.place.Context.{Context}
use Rattle.fzn_scope.specs.Arguments.{Arguments, arguments_in}
use Rattle.fzn_scope.specs.Checks.{Stops, Leaves}
use Rattle.fzn_scope.specs.Rules.{with_argument}

-- a call that changes something into this does what is meant, and gives these tokens behind it, unless memory ran out
abbrev pub LeavesAt : {X : Type 0} → List Token → X → Result (Bor (List Token)) ModelError → Result X Refusal → Type 0
LeavesAt rest now (Ok behind) meaning = (meaning ≡ Ok now) × (behind.now ≡ rest)
LeavesAt rest now (Err e) meaning = Stops e meaning

-- whichever atoms stand before a bracket in these tokens, a call does what is meant for them
abbrev pub ForAtoms : {X : Type 0} → List Token → X → Result (Bor (List Token)) ModelError → (List Atom → Result X Refusal) → Type 0
ForAtoms tokens now result meaning = (atoms : List Atom) (rest : List Token) → IsListOf IsAtom mark.CloseBracket tokens atoms rest → LeavesAt rest now result (meaning atoms)

-- whichever expression these tokens begin with, a call does what is meant for it
abbrev pub ForExpr : {X : Type 0} → List Token → X → Result (Bor (List Token)) ModelError → (Expr → Result X Refusal) → Type 0
ForExpr tokens now result meaning = (expr : Expr) (rest : List Token) → IsExpr tokens expr rest → LeavesAt rest now result (meaning expr)

-- whichever expressions lent arguments are, a call does what is meant for them
abbrev pub ForArguments : {X : Type 0} → LentArguments → X → Result (Unit {0}) ModelError → (List Expr → Result X Refusal) → Type 0
ForArguments arguments now result meaning = (exprs : List Expr) → AreArguments arguments exprs → Leaves now result (meaning exprs)

-- the arguments that lists hold with one more, at a place that asks for it
abbrev pub argument_after : Context → ArgumentLists → Place → Expr → Result Arguments Refusal
argument_after context lists place expr = with_argument context.text.now context.names.now (arguments_in lists) place expr

-- the rule that is lent is what is meant, unless memory ran out
abbrev pub GivesRule : Result RuleRef ModelError → Result Rule Refusal → Type 0
GivesRule (Ok rule) meaning = meaning ≡ Ok (lent_rule rule)
GivesRule (Err e) meaning = Stops e meaning
