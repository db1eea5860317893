-- The terms of expressions have their values.
use Rattle.std.proofs.Common.{◌≡◌, ℕ, Bool, true, false, not, ◌&&◌, ◌||◌, List, [], ◌∷◌, ◌++◌, Option, Some, None, Ok, refl, sym, ap, ◌∙◌, append_assoc, append-nil}
use Rattle.std.specs.Prelude.{map, ℤ}
use Rattle.fzn_item.specs.declared.item.Atom.{Atom}
use Rattle.fzn_item.specs.declared.item.Atom.TheVariants as atom
use Rattle.fzn_item.specs.declared.item.Expr.{Expr}
use Rattle.fzn_item.specs.declared.item.Expr.TheVariants as expr
use Rattle.dcsp_defs.specs.Csp.{Assignment}
use Rattle.dcsp_rule.specs.declared.rule.Term.{Term}
use Rattle.dcsp_rule.specs.declared.rule.Term.TheVariants.{Const}
use Rattle.dcsp_rule.specs.declared.rule.Members.{Members}
use Rattle.dcsp_rule.specs.declared.rule.Members.TheVariants.{Between, Listed}
use Rattle.dcsp_rule.specs.Rules.{value_under}
use Rattle.fzn_scope.specs.declared.names.Declared.{Declared}
use Rattle.fzn_scope.specs.declared.names.Declared.TheVariants as declared
use Rattle.fzn_scope.specs.declared.place.Wanted.{Wanted}
use Rattle.fzn_token.specs.declared.refusal.Refusal.TheVariants as refusal
use Rattle.fzn_scope.specs.Names.{Scope, declared_as, bytes_at}
use Rattle.fzn_scope.specs.Places.{truth_term, is_constant, same, wanted_term, term_named, term_of, one_of, terms_after, terms_named, list_of, set_named, set_of}
use Rattle.law_subjects.specs.Environments.{Value, Number, Numbers, Set, Environment, numbers, truth_number, atom_value, expr_value}
use Rattle.law_subjects.proofs.Checks.{bind_ok, passed}
use Rattle.law_subjects.proofs.MeantNames.{meaning, Agrees}

pub wanted_is : (wanted : Wanted) (at : ℕ) (boolean : Bool) (term t : Term) → wanted_term wanted at boolean term ≡ Ok t → ((same boolean wanted.boolean && (not wanted.constant || is_constant term)) ≡ true) × (term ≡ t)
wanted_is wanted at boolean term t e = passed (same boolean wanted.boolean && (not wanted.constant || is_constant term)) term t (refusal.IllTyped at) e

pub append_map : {X Y : Type 0} (f : X → Y) (xs ys : List X) → map f (xs ++ ys) ≡ map f xs ++ map f ys
append_map f [] ys = refl
append_map f (x ∷ xs) ys = ap (λ zs. f x ∷ zs) (append_map f xs ys)

module _ (text : List ℕ) (values : Assignment) (env : Environment) (scope : Scope) (agrees : Agrees values env scope) where
  as_term : (wanted : Wanted) (at : ℕ) (boolean : Bool) (term t : Term) → wanted_term wanted at boolean term ≡ Ok t → Number (value_under values term) ≡ Number (value_under values t)
  as_term wanted at boolean term t e = ap (λ (u : Term). Number (value_under values u)) (wanted_is wanted at boolean term t e).1

  named_value : (wanted : Wanted) (at : ℕ) (d : Option Declared) (t : Term) (v : Value) → ((e : Declared) → d ≡ Some e → v ≡ meaning values e) → term_named wanted at d ≡ Ok t → v ≡ Number (value_under values t)
  named_value wanted at None t v h e = absurd cc
  named_value wanted at (Some (declared.One boolean term)) t v h e = h (declared.One boolean term) refl ∙ as_term wanted at boolean term t e
  named_value wanted at (Some (declared.Set set)) t v h e = absurd cc
  named_value wanted at (Some (declared.Many boolean variable terms)) t v h e = absurd cc

  truth_value : (value : Bool) → Number (truth_number value) ≡ Number (value_under values (truth_term value))
  truth_value true = refl
  truth_value false = refl

  -- an atom's
  pub term_value : (wanted : Wanted) (a : Atom) (t : Term) → term_of text scope wanted a ≡ Ok t → atom_value text env a ≡ Number (value_under values t)
  term_value wanted (atom.Truth at value) t e = truth_value value ∙ as_term wanted at true (truth_term value) t e
  term_value wanted (atom.Whole at value) t e = as_term wanted at false (Const value) t e
  term_value wanted (atom.Float at) t e = absurd cc
  term_value wanted (atom.Name at to) t e = named_value wanted at (declared_as scope (bytes_at text at to)) t (env (bytes_at text at to)) (agrees (bytes_at text at to)) e
  term_value wanted (atom.Range at low high) t e = absurd cc
  term_value wanted (atom.Listed at vs) t e = absurd cc

  -- an expression's, where one is wanted
  pub one_value : (wanted : Wanted) (x : Expr) (t : Term) → one_of text scope wanted x ≡ Ok t → expr_value text env x ≡ Number (value_under values t)
  one_value wanted (expr.One a) t e = term_value wanted a t e
  one_value wanted (expr.List at atoms) t e = absurd cc

  -- atoms'
  terms_value : (wanted : Wanted) (done : List Term) (atoms : List Atom) (out : List Term) → terms_after text scope wanted done atoms ≡ Ok out
      → map (value_under values) done ++ numbers (map (atom_value text env) atoms) ≡ map (value_under values) out
  terms_value wanted done [] out e = append-nil (map (value_under values) done) ∙ (let same : done ≡ out = cc in ap (map (value_under values)) same)
  terms_value wanted done (a ∷ atoms) out e =
      let b = bind_ok (term_of text scope wanted a) (λ term. terms_after text scope wanted (done ++ term ∷ []) atoms) out e in
      let v = term_value wanted a b.0 b.1 in
      let rest = numbers (map (atom_value text env) atoms) in
      ap (λ (w : Value). map (value_under values) done ++ numbers (w ∷ map (atom_value text env) atoms)) v
      ∙ sym (append_assoc (map (value_under values) done) (value_under values b.0 ∷ []) rest)
      ∙ ap (λ (l : List ℤ). l ++ rest) (sym (append_map (value_under values) done (b.0 ∷ [])))
      ∙ terms_value wanted (done ++ b.0 ∷ []) atoms out b.2

  many_value : (wanted : Wanted) (at : ℕ) (d : Option Declared) (ts : List Term) (v : Value) → ((e : Declared) → d ≡ Some e → v ≡ meaning values e) → terms_named wanted at d ≡ Ok ts → v ≡ Numbers (map (value_under values) ts)
  many_value wanted at None ts v h e = absurd cc
  many_value wanted at (Some (declared.One boolean term)) ts v h e = absurd cc
  many_value wanted at (Some (declared.Set set)) ts v h e = absurd cc
  many_value wanted at (Some (declared.Many boolean variable terms)) ts v h e =
      h (declared.Many boolean variable terms) refl
      ∙ ap (λ (us : List Term). Numbers (map (value_under values) us)) (passed (same boolean wanted.boolean && (not wanted.constant || not variable)) terms ts (refusal.IllTyped at) e).1

  -- an expression's, where a list is wanted
  pub list_value : (wanted : Wanted) (x : Expr) (ts : List Term) → list_of text scope wanted x ≡ Ok ts → expr_value text env x ≡ Numbers (map (value_under values) ts)
  list_value wanted (expr.List at atoms) ts e = ap Numbers (terms_value wanted [] atoms ts e)
  list_value wanted (expr.One (atom.Name at to)) ts e = many_value wanted at (declared_as scope (bytes_at text at to)) ts (env (bytes_at text at to)) (agrees (bytes_at text at to)) e
  list_value wanted (expr.One (atom.Truth at value)) ts e = absurd cc
  list_value wanted (expr.One (atom.Whole at value)) ts e = absurd cc
  list_value wanted (expr.One (atom.Float at)) ts e = absurd cc
  list_value wanted (expr.One (atom.Range at low high)) ts e = absurd cc
  list_value wanted (expr.One (atom.Listed at vs)) ts e = absurd cc

  set_value_named : (at : ℕ) (d : Option Declared) (m : Members) (v : Value) → ((e : Declared) → d ≡ Some e → v ≡ meaning values e) → set_named at d ≡ Ok m → v ≡ Set m
  set_value_named at None m v h e = absurd cc
  set_value_named at (Some (declared.One boolean term)) m v h e = absurd cc
  set_value_named at (Some (declared.Set set)) m v h e = h (declared.Set set) refl ∙ (let same : set ≡ m = cc in ap Set same)
  set_value_named at (Some (declared.Many boolean variable terms)) m v h e = absurd cc

  -- an expression's, where a set is wanted
  pub set_value : (x : Expr) (m : Members) → set_of text scope x ≡ Ok m → expr_value text env x ≡ Set m
  set_value (expr.List at atoms) m e = absurd cc
  set_value (expr.One (atom.Name at to)) m e = set_value_named at (declared_as scope (bytes_at text at to)) m (env (bytes_at text at to)) (agrees (bytes_at text at to)) e
  set_value (expr.One (atom.Truth at value)) m e = absurd cc
  set_value (expr.One (atom.Whole at value)) m e = absurd cc
  set_value (expr.One (atom.Float at)) m e = absurd cc
  set_value (expr.One (atom.Range at low high)) m e = let same : Between low high ≡ m = cc in ap Set same
  set_value (expr.One (atom.Listed at vs)) m e = let same : Listed vs ≡ m = cc in ap Set same
