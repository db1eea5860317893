-- Boolean names stand for truths, and arrays of constants for constants.
use Rattle.std.proofs.Common.{◌≡◌, ℕ, pos, Bool, true, false, not, ◌&&◌, ◌||◌, ◌⊎◌, inl, inr, List, [], ◌∷◌, ◌++◌, Option, Some, None, Ok, refl, sym, ap, ◌∙◌, subst}
use Rattle.std.specs.Prelude.{map, ℤ, slice_get}
use Rattle.dcsp_defs.proofs.Lists.{and_left, and_right}
use Rattle.fzn_item.specs.declared.item.Atom.{Atom}
use Rattle.fzn_item.specs.declared.item.Atom.TheVariants as atom
use Rattle.fzn_item.specs.declared.item.Expr.{Expr}
use Rattle.fzn_item.specs.declared.item.Expr.TheVariants as expr
use Rattle.dcsp_defs.specs.Csp.{Assignment}
use Rattle.dcsp_rule.specs.declared.rule.Term.{Term}
use Rattle.dcsp_rule.specs.declared.rule.Term.TheVariants.{Const, Var}
use Rattle.dcsp_rule.specs.Rules.{value_under}
use Rattle.fzn_scope.specs.declared.names.Declared.{Declared}
use Rattle.fzn_scope.specs.declared.names.Declared.TheVariants as declared
use Rattle.fzn_scope.specs.declared.place.Wanted.{Wanted}
use Rattle.fzn_token.specs.declared.refusal.Refusal.TheVariants as refusal
use Rattle.fzn_scope.specs.Names.{Scope, declared_as, bytes_at}
use Rattle.fzn_scope.specs.Places.{truth_term, is_constant, same, wanted_term, term_named, term_of, one_of, terms_after, terms_named, list_of}
use Rattle.fzn_scope.specs.Rules.{constant_of}
use Rattle.law_subjects.proofs.Checks.{bind_ok, passed}
use Rattle.law_subjects.proofs.MeantNames.{Each}
use Rattle.law_subjects.proofs.Values.{wanted_is, append_map}

-- a constant 0 or 1, or a variable with this domain
abbrev pub IsTruthTerm : List (List ℤ) → Term → Type 0
IsTruthTerm domains (Const v) = (v ≡ pos 0) ⊎ (v ≡ pos 1)
IsTruthTerm domains (Var k) = slice_get domains k ≡ Some (pos 0 ∷ pos 1 ∷ [])

-- the terms are constants
abbrev pub AreFixed : List Term → Type 0
AreFixed terms = (values : Assignment) → map constant_of terms ≡ map (value_under values) terms

abbrev pub IsSorted : List (List ℤ) → Declared → Type 0
IsSorted domains (declared.One true term) = IsTruthTerm domains term
IsSorted domains (declared.One false term) = Unit {0}
IsSorted domains (declared.Set set) = Unit {0}
IsSorted domains (declared.Many boolean variable terms) = variable ≡ false → AreFixed terms

abbrev pub Sorted : List (List ℤ) → Scope → Type 0
Sorted domains scope = Each (λ name d. IsSorted domains d) scope

-- what is asked of a term is so
abbrev pub IsOf : List (List ℤ) → Wanted → Term → Type 0
IsOf domains wanted t = (wanted.boolean ≡ true → IsTruthTerm domains t) × (wanted.constant ≡ true → is_constant t ≡ true)

same_is : (b c : Bool) → same b c ≡ true → c ≡ b
same_is true c e = e
same_is false true e = absurd cc
same_is false false e = refl

constant_if : (c k : Bool) → (not c || k) ≡ true → c ≡ true → k ≡ true
constant_if true k e h = e
constant_if false k e h = absurd cc

is_of : (domains : List (List ℤ)) (wanted : Wanted) (at : ℕ) (boolean : Bool) (term t : Term) → (boolean ≡ true → IsTruthTerm domains term) → wanted_term wanted at boolean term ≡ Ok t → IsOf domains wanted t
is_of domains wanted at boolean term t h e =
    let w = wanted_is wanted at boolean term t e in
    let s = same_is boolean wanted.boolean (and_left (same boolean wanted.boolean) (not wanted.constant || is_constant term) w.0) in
    subst (IsOf domains wanted) w.1 (
      (λ b. h (sym s ∙ b)),
      constant_if wanted.constant (is_constant term) (and_right (same boolean wanted.boolean) (not wanted.constant || is_constant term) w.0),
    )

truth_is : (domains : List (List ℤ)) (value : Bool) → IsTruthTerm domains (truth_term value)
truth_is domains true = inr refl
truth_is domains false = inl refl

by_sort : (domains : List (List ℤ)) (boolean : Bool) (term : Term) → IsSorted domains (declared.One boolean term) → boolean ≡ true → IsTruthTerm domains term
by_sort domains true term h e = h
by_sort domains false term h e = absurd cc

fixed_value : (values : Assignment) (t : Term) → is_constant t ≡ true → constant_of t ≡ value_under values t
fixed_value values (Const v) e = refl
fixed_value values (Var k) e = absurd cc

not_variable : (b : Bool) → not b ≡ true → b ≡ false
not_variable true e = absurd cc
not_variable false e = refl

module _ (text : List ℕ) (domains : List (List ℤ)) (scope : Scope) (sorted : Sorted domains scope) where
  named_is : (wanted : Wanted) (at : ℕ) (d : Option Declared) (t : Term) → ((e : Declared) → d ≡ Some e → IsSorted domains e) → term_named wanted at d ≡ Ok t → IsOf domains wanted t
  named_is wanted at None t h e = absurd cc
  named_is wanted at (Some (declared.One boolean term)) t h e = is_of domains wanted at boolean term t (by_sort domains boolean term (h (declared.One boolean term) refl)) e
  named_is wanted at (Some (declared.Set set)) t h e = absurd cc
  named_is wanted at (Some (declared.Many boolean variable terms)) t h e = absurd cc

  pub term_is : (wanted : Wanted) (a : Atom) (t : Term) → term_of text scope wanted a ≡ Ok t → IsOf domains wanted t
  term_is wanted (atom.Truth at value) t e = is_of domains wanted at true (truth_term value) t (λ _. truth_is domains value) e
  term_is wanted (atom.Whole at value) t e = is_of domains wanted at false (Const value) t (λ no. absurd cc) e
  term_is wanted (atom.Float at) t e = absurd cc
  term_is wanted (atom.Name at to) t e = named_is wanted at (declared_as scope (bytes_at text at to)) t (sorted (bytes_at text at to)) e
  term_is wanted (atom.Range at low high) t e = absurd cc
  term_is wanted (atom.Listed at vs) t e = absurd cc

  pub one_is : (wanted : Wanted) (x : Expr) (t : Term) → one_of text scope wanted x ≡ Ok t → IsOf domains wanted t
  one_is wanted (expr.One a) t e = term_is wanted a t e
  one_is wanted (expr.List at atoms) t e = absurd cc

  terms_fixed : (wanted : Wanted) → wanted.constant ≡ true → (done : List Term) (atoms : List Atom) (out : List Term) → AreFixed done → terms_after text scope wanted done atoms ≡ Ok out → AreFixed out
  terms_fixed wanted c done [] out h e = let is : done ≡ out = cc in subst AreFixed is h
  terms_fixed wanted c done (a ∷ atoms) out h e =
      let b = bind_ok (term_of text scope wanted a) (λ term. terms_after text scope wanted (done ++ term ∷ []) atoms) out e in
      let k = (term_is wanted a b.0 b.1).1 c in
      terms_fixed wanted c (done ++ b.0 ∷ []) atoms out
      (λ values. append_map constant_of done (b.0 ∷ []) ∙ ap (λ (l : List ℤ). l ++ constant_of b.0 ∷ []) (h values)
      ∙ ap (λ (v : ℤ). map (value_under values) done ++ v ∷ []) (fixed_value values b.0 k) ∙ sym (append_map (value_under values) done (b.0 ∷ [])))
      b.2

  many_fixed : (wanted : Wanted) → wanted.constant ≡ true → (at : ℕ) (d : Option Declared) (ts : List Term) → ((e : Declared) → d ≡ Some e → IsSorted domains e) → terms_named wanted at d ≡ Ok ts → AreFixed ts
  many_fixed wanted c at None ts h e = absurd cc
  many_fixed wanted c at (Some (declared.One boolean term)) ts h e = absurd cc
  many_fixed wanted c at (Some (declared.Set set)) ts h e = absurd cc
  many_fixed wanted c at (Some (declared.Many boolean variable terms)) ts h e =
      let p = passed (same boolean wanted.boolean && (not wanted.constant || not variable)) terms ts (refusal.IllTyped at) e in
      let v = constant_if wanted.constant (not variable) (and_right (same boolean wanted.boolean) (not wanted.constant || not variable) p.0) c in
      subst AreFixed p.1 (h (declared.Many boolean variable terms) refl (not_variable variable v))

  pub list_fixed : (wanted : Wanted) → wanted.constant ≡ true → (x : Expr) (ts : List Term) → list_of text scope wanted x ≡ Ok ts → AreFixed ts
  list_fixed wanted c (expr.List at atoms) ts e = terms_fixed wanted c [] atoms ts (λ values. refl) e
  list_fixed wanted c (expr.One (atom.Name at to)) ts e = many_fixed wanted c at (declared_as scope (bytes_at text at to)) ts (sorted (bytes_at text at to)) e
  list_fixed wanted c (expr.One (atom.Truth at value)) ts e = absurd cc
  list_fixed wanted c (expr.One (atom.Whole at value)) ts e = absurd cc
  list_fixed wanted c (expr.One (atom.Float at)) ts e = absurd cc
  list_fixed wanted c (expr.One (atom.Range at low high)) ts e = absurd cc
  list_fixed wanted c (expr.One (atom.Listed at vs)) ts e = absurd cc
