-- A comparison without a variable has an empty scope.
use Rattle.std.proofs.Common.{◌≡◌, ℕ, ◌==◌, true, false, List, [], ◌∷◌, ◌++◌, ◌&&◌, length, filter_map, refl, sym, ap, ◌∙◌, append-nil, arith}
use Rattle.std.specs.Prelude.{is_some, not}
use Rattle.std.specs.List.{list_any}
use Rattle.dcsp_meaning.specs.declared.kinds.ConstraintKind.{ConstraintKind}
use Rattle.dcsp_meaning.specs.declared.kinds.ConstraintKind.TheVariants.{IntEq, IntNe, IntLe, IntLt}
use Rattle.dcsp_meaning.specs.Table.{is_shape}
use Rattle.dcsp_rule.specs.declared.rule.Term.{Term}
use Rattle.dcsp_rule.specs.declared.rule.Term.TheVariants.{Const, Var}
use Rattle.dcsp_rule.specs.declared.rule.Rule.{Rule}
use Rattle.dcsp_rule.specs.declared.rule.Rule.TheVariants.{Plain, Sum}
use Rattle.dcsp_rule.specs.Rules.{has_shape, mentions, variable_of}
use Rattle.dcsp_rule.specs.Pairs.{compares_variable, is_comparison}
use Rattle.dcsp_row.specs.Easy.{has_span, is_plain}

-- a comparison takes no lists
shape_of : (kind : ConstraintKind) (n m l : ℕ) → is_comparison kind ≡ true → is_shape kind n m l ≡ true → (m ≡ 0) × (l ≡ 0)
shape_of IntEq n m l e h = grind (arith)
shape_of IntNe n m l e h = grind (arith)
shape_of IntLe n m l e h = grind (arith)
shape_of IntLt n m l e h = grind (arith)
shape_of other n m l e h = absurd (let clash : false ≡ true = e in cc)

empty : {X : Type 0} (xs : List X) → length xs ≡ 0 → xs ≡ []
empty [] e = refl
empty (x ∷ xs) e = absurd (omega (arith, e))

any_variable : (terms : List Term) (v : ℕ) → list_any (λ x. x == v) (filter_map variable_of terms) ≡ true → list_any (λ term. is_some (variable_of term)) terms ≡ true
any_variable [] v e = e
any_variable (Const value ∷ terms) v e = any_variable terms v e
any_variable (Var var ∷ terms) v e = refl

-- a comparison that compares no variable mentions none
pub no_variable : (var v : ℕ) (rule : Rule) → has_shape rule ≡ true → is_plain rule ≡ true → has_span var rule ≡ true → (compares_variable rule ≡ true → ⊥) → mentions rule v ≡ true → ⊥
no_variable var v (Plain kind scalars first second members) shape plain has none there =
    let lists = shape_of kind (length scalars) (length first) (length second) has shape in
    let alone : scalars ++ first ++ second ≡ scalars = ap (λ (l : List Term). scalars ++ first ++ l) (empty second lists.1) ∙ ap (λ (l : List Term). scalars ++ l ++ []) (empty first lists.0) ∙ append-nil (scalars ++ []) ∙ append-nil scalars in
    let any = any_variable scalars v (ap (λ (l : List Term). list_any (λ x. x == v) (filter_map variable_of l)) (sym alone) ∙ there) in
    none (ap (λ b. b && list_any (λ term. is_some (variable_of term)) scalars) has ∙ any)
no_variable var v (Sum rel coefs terms total told) shape plain has none there = let clash : false ≡ true = plain in cc

pub by_plain : {X : Type 0} (rule : Rule) → (is_plain rule ≡ true → X) → (not (is_plain rule) ≡ true → X) → X
by_plain (Plain kind scalars first second members) f g = f refl
by_plain (Sum rel coefs terms total told) f g = g refl
