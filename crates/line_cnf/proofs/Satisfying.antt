-- What clauses say of values.
use Rattle.std.proofs.Common.{◌≡◌, ◌⊎◌, ℕ, zero, suc, ◌+◌, ◌-◌, Bool, true, false, not, List, [], ◌∷◌, ◌++◌, length, map, Ok, refl, sym, ap, subst, ◌∙◌, inl, inr, arith}
use Rattle.std.specs.Prelude.{ℤ, pos, negsuc, ◌||◌, All, Contains}
use Rattle.std.specs.List.{list_any}
use Rattle.std.proofs.lemmas.List.Elements.{All-contains, Contains-append_left, Contains-append_right, Contains-append_cases}
use Rattle.dcsp_meaning.specs.Words.{is_one}
use Rattle.dcsp_meaning.specs.declared.kinds.ConstraintKind.{ConstraintKind}
use Rattle.dcsp_meaning.specs.declared.kinds.ConstraintKind.TheVariants.{BoolClause}
use Rattle.dcsp_defs.specs.Words.{In}
use Rattle.dcsp_defs.specs.Csp.{Assignment}
use Rattle.dcsp_rule.specs.declared.rule.Term.{Term}
use Rattle.dcsp_rule.specs.declared.rule.Term.TheVariants.{Const, Var}
use Rattle.dcsp_rule.specs.declared.rule.Members.{Members}
use Rattle.dcsp_rule.specs.declared.rule.Rule.TheVariants.{Plain, Sum}
use Rattle.dcsp_rule.specs.Rules.{rule_truth, value_under}
use Rattle.dcsp_rule.specs.Problems.{Contents, csp_of, constraint_of}
use Rattle.rup_check.specs.Literals.{is_true, IsUnsatisfiable}
use Rattle.rup_check.specs.Propagation.{Satisfies}
use Rattle.rup_check.proofs.PropagationLaws.{contains_head, contains_cons, contains_nil, contains_map, contains_mapped}
use Rattle.cnf_front.specs.Clauses.{literal_of, negation_of, rule_clause, IsVariable, IsClauseRule}
use Rattle.cnf_front.proofs.ClauseLaws.{given_rules}
use Rattle.abt_input.specs.Inputs.{IsFormulaOf}
use Rattle.line_cnf.specs.Satisfying.{clauses_of, truths, RulesAreClauses, SolutionsSatisfy}
use Rattle.line_cnf.specs.RupPromise.{IsRefuted}

or_true : (a b : Bool) → (a || b) ≡ true → (a ≡ true) ⊎ (b ≡ true)
or_true true b e = inl refl
or_true false b e = inr e

or_left : (a b : Bool) → a ≡ true → (a || b) ≡ true
or_left true b e = refl
or_left false b e = absurd cc

or_right : (a b : Bool) → b ≡ true → (a || b) ≡ true
or_right true b e = refl
or_right false b e = e

module _ (values : Assignment) where
  -- a variable is true where its value is 1
  pub variable_true : (x : ℕ) → is_true (truths values) (pos (x + 1)) ≡ is_one (values x)
  variable_true x = let e : x + 1 ≡ suc x = omega arith in let f : suc x - 1 ≡ x = omega arith in ap (λ n. is_true (truths values) (pos n)) e ∙ ap (λ n. is_one (values n)) f

  -- and its negation where it is not
  pub negation_true : (x : ℕ) → is_true (truths values) (negsuc x) ≡ not (is_one (values x))
  negation_true x = let f : suc x - 1 ≡ x = omega arith in ap (λ n. not (is_one (values n))) f

  -- terms that are literals, each of which is true where its value passes the test
  module _ (literal : Term → ℤ) (test : ℤ → Bool) (says : (x : ℕ) → is_true (truths values) (literal (Var x)) ≡ test (values x)) where
    some_true : (ts : List Term) → All IsVariable ts → list_any test (map (value_under values) ts) ≡ true → Satisfies (is_true (truths values)) (map literal ts)
    some_true [] h e = absurd cc
    some_true (Const c ∷ ts) h e = absurd (h 0 (Const c) (omega arith))
    some_true (Var x ∷ ts) h e = elim (or_true (test (values x)) (list_any test (map (value_under values) ts)) e) [
      | inl t ↦ (literal (Var x), contains_head (literal (Var x)) (map literal ts), says x ∙ t)
      | inr t ↦ (let r = some_true ts (λ k d l. h (suc k) d (omega arith)) t in (r.0, contains_cons (literal (Var x)) (map literal ts) r.0 r.1, r.2))
    ]

    some_passes : (ts : List Term) → All IsVariable ts → (z : ℤ) → Contains (map literal ts) z → is_true (truths values) z ≡ true → list_any test (map (value_under values) ts) ≡ true
    some_passes [] h z c t = absurd (contains_nil z c)
    some_passes (Const c ∷ ts) h z i t = absurd (h 0 (Const c) (omega arith))
    some_passes (Var x ∷ ts) h z (zero, l, e) t = or_left (test (values x)) (list_any test (map (value_under values) ts)) (sym (says x) ∙ ap (is_true (truths values)) e ∙ t)
    some_passes (Var x ∷ ts) h z (suc k, l, e) t = or_right (test (values x)) (list_any test (map (value_under values) ts)) (some_passes ts (λ j d m. h (suc j) d (omega arith)) z (k, omega arith, e) t)

  clause_true : (first second : List Term) → All IsVariable first → All IsVariable second → (list_any is_one (map (value_under values) first) || list_any (λ y. not (is_one y)) (map (value_under values) second)) ≡ true → Satisfies (is_true (truths values)) (map literal_of first ++ map negation_of second)
  clause_true first second h k e = elim (or_true (list_any is_one (map (value_under values) first)) (list_any (λ y. not (is_one y)) (map (value_under values) second)) e) [
    | inl t ↦ (let r = some_true literal_of is_one variable_true first h t in (r.0, Contains-append_left (map literal_of first) (map negation_of second) r.0 r.1, r.2))
    | inr t ↦ (let r = some_true negation_of (λ y. not (is_one y)) negation_true second k t in (r.0, Contains-append_right (map literal_of first) (map negation_of second) r.0 r.1, r.2))
  ]

  clause_passes : (first second : List Term) → All IsVariable first → All IsVariable second → Satisfies (is_true (truths values)) (map literal_of first ++ map negation_of second) → (list_any is_one (map (value_under values) first) || list_any (λ y. not (is_one y)) (map (value_under values) second)) ≡ true
  clause_passes first second h k (z, c, t) = elim (Contains-append_cases (map literal_of first) (map negation_of second) z c) [
    | inl i ↦ or_left (list_any is_one (map (value_under values) first)) (list_any (λ y. not (is_one y)) (map (value_under values) second)) (some_passes literal_of is_one variable_true first h z i t)
    | inr i ↦ or_right (list_any is_one (map (value_under values) first)) (list_any (λ y. not (is_one y)) (map (value_under values) second)) (some_passes negation_of (λ y. not (is_one y)) negation_true second k z i t)
  ]

rule_says : (kind : ConstraintKind) (scalars first second : List Term) (members : Members) (values : Assignment) → kind ≡ BoolClause → rule_truth (Plain kind scalars first second members) values ≡ (list_any is_one (map (value_under values) first) || list_any (λ y. not (is_one y)) (map (value_under values) second))
rule_says kind scalars first second members values e = ap (λ k. rule_truth (Plain k scalars first second members) values) e

-- a rule is true exactly where its clause has a true literal
pub rules_are_clauses : RulesAreClauses
rules_are_clauses (Plain kind scalars first second members) values (e, h, k) = (
  (λ t. clause_true values first second h k (sym (rule_says kind scalars first second members values e) ∙ t)),
  (λ s. rule_says kind scalars first second members values e ∙ clause_passes values first second h k s),
)
rules_are_clauses (Sum rel coefs terms total told) values i = absurd i

pub in_of : {X : Type 0} (xs : List X) (x : X) → Contains xs x → In x xs
in_of [] x c = absurd (contains_nil x c)
in_of (y ∷ ys) x (zero, l, e) = inl (sym e)
in_of (y ∷ ys) x (suc k, l, e) = inr (in_of ys x (k, omega arith, e))

-- the rules of a formula's problem are clauses
pub formula_rules : (text : List ℕ) (p : Contents) → IsFormulaOf text p → All IsClauseRule p.rules
formula_rules text p h = given_rules text (Ok p) h.reads

-- a solution satisfies the clauses
pub solutions_satisfy : SolutionsSatisfy
solutions_satisfy text p h values s clause c =
    let r = contains_map rule_clause p.rules clause c in
    let i : IsClauseRule r.0 = All-contains IsClauseRule p.rules r.0 (formula_rules text p h) r.1 in
    let t : rule_truth r.0 values ≡ true = s.constraints (constraint_of (length p.domains) r.0) (in_of (csp_of p).constraints (constraint_of (length p.domains) r.0) (contains_mapped (constraint_of (length p.domains)) p.rules r.0 r.1)) in
    subst (Satisfies (is_true (truths values))) r.2 ((rules_are_clauses r.0 values i).0 t)

-- what no assignment satisfies has no solution
pub is_refuted : (text : List ℕ) (p : Contents) → IsFormulaOf text p → IsUnsatisfiable (clauses_of p) → IsRefuted p
is_refuted text p h none = record { unsatisfiable = none; no_solution = λ values s. none (truths values) (solutions_satisfy text p h values s) }
