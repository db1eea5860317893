-- The solutions of a narrowed problem are those of the whole one with a better value at the aim.
use Rattle.std.proofs.Common.{◌≡◌, ◌∙◌, ℕ, ◌<◌, Bool, true, false, List, [], map, length, filter, refl, sym, ap, subst, inl, inr, arith}
use Rattle.std.specs.Prelude.{ℤ, ◌↔◌, Option, Some, None, IsSome, slice_set, slice_index_or}
use Rattle.std.proofs.lemmas.List.{length-set, get_or-set_same, get_or-set_other}
use Rattle.std.proofs.lemmas.Bool.Decides.{eqb_tells}
use Rattle.dcsp_defs.specs.Words.{In}
use Rattle.dcsp_defs.specs.Csp.{Assignment, IsSolution, domain}
use Rattle.dcsp_defs.proofs.Lists.{filter-from, In-filter}
use Rattle.dcsp_rule.specs.declared.rule.Term.TheVariants.{Const, Var}
use Rattle.dcsp_rule.specs.declared.aim.Aim.{Aim}
use Rattle.dcsp_rule.specs.declared.aim.Aim.TheVariants.{Satisfy, Least, Greatest}
use Rattle.dcsp_rule.specs.Rules.{IsAimOf}
use Rattle.dcsp_rule.specs.Problems.{Contents, csp_of, constraint_of}
use Rattle.dcsp_rule.specs.Aims.{aimed_at, is_better, narrowed}
use Rattle.dcsp_problem.proofs.Narrowed.{aimed_below, narrowed_is}
use Rattle.abt_optimum.specs.Best.{aim_value, NarrowingKeepsBetter, NarrowingDecides}

-- the values of one domain that pass a test, and the other domains as they were
module _ (p : Contents) (test : ℤ → Bool) (var : ℕ) (known : var < length p.domains) where
  abbrev whole : List ℤ
  whole = slice_index_or p.domains var []

  abbrev cut : List (List ℤ)
  cut = slice_set p.domains var (filter test whole)

  abbrev cut_problem : Contents
  cut_problem = record p { domains = cut }

  as_many : length cut ≡ length p.domains
  as_many = length-set p.domains var (filter test whole)

  cut_here : domain (csp_of cut_problem) var ≡ filter test whole
  cut_here = get_or-set_same p.domains var (filter test whole) [] known

  same_constraints : map (constraint_of (length cut)) p.rules ≡ map (constraint_of (length p.domains)) p.rules
  same_constraints = ap (λ (n : ℕ). map (constraint_of n) p.rules) as_many

  pub better_of_cut : (values : Assignment) → IsSolution (csp_of cut_problem) values → IsSolution (csp_of p) values × (test (values var) ≡ true)
  better_of_cut values h =
      let here = filter-from test (values var) whole (subst (In (values var)) cut_here (h.domains var (omega (arith, as_many)))) in (
        record {
          domains = λ i l. elim (eqb_tells i var) [
            | inl t ↦ subst (λ (k : ℕ). In (values k) (domain (csp_of p) k)) (sym t.1) here.0
            | inr t ↦ subst (In (values i)) (get_or-set_other p.domains var i (filter test whole) [] t.1) (h.domains i (omega (arith, as_many)))
          ];
          constraints = λ c is. h.constraints c (subst (In c) (sym same_constraints) is);
        },
        here.1,
      )

  pub cut_of_better : (values : Assignment) → IsSolution (csp_of p) values → test (values var) ≡ true → IsSolution (csp_of cut_problem) values
  cut_of_better values h passes = record {
    domains = λ i l. elim (eqb_tells i var) [
      | inl t ↦ subst (λ (k : ℕ). In (values k) (domain (csp_of cut_problem) k)) (sym t.1) (subst (In (values var)) (sym cut_here) (In-filter test (values var) whole (h.domains var known) passes))
      | inr t ↦ subst (In (values i)) (sym (get_or-set_other p.domains var i (filter test whole) [] t.1)) (h.domains i (omega (arith, as_many)))
    ];
    constraints = λ c is. h.constraints c (subst (In c) same_constraints is);
  }

-- the value at an aim that is at a variable is the variable's
pub aim_value_is : (aim : Aim) (var : ℕ) (values : Assignment) → aimed_at aim ≡ Some var → aim_value aim values ≡ values var
aim_value_is Satisfy var values at = cc
aim_value_is (Least (Const value)) var values at = cc
aim_value_is (Least (Var x)) var values at = let same : x ≡ var = cc in ap values same
aim_value_is (Greatest (Const value)) var values at = cc
aim_value_is (Greatest (Var x)) var values at = let same : x ≡ var = cc in ap values same

-- the same of the problem that is narrowed, whose aim is at this variable
keeps_at : (p : Contents) (bound : ℤ) (values : Assignment) (var : ℕ) → IsAimOf (length p.domains) p.aim → aimed_at p.aim ≡ Some var
    → IsSolution (csp_of (narrowed p bound)) values ↔ (IsSolution (csp_of p) values × (is_better p.aim bound (aim_value p.aim values) ≡ true))
keeps_at p bound values var known at =
    let below = aimed_below (length p.domains) p.aim var known at in
    let test : ℤ → Bool = is_better p.aim bound in
    let value = aim_value_is p.aim var values at in
    let is = narrowed_is p bound var at in (
      λ h.
          let both = better_of_cut p test var below values (subst (λ (q : Contents). IsSolution (csp_of q) values) is h) in
          (both.0, ap test value ∙ both.1),
      λ h. subst (λ (q : Contents). IsSolution (csp_of q) values) (sym is) (cut_of_better p test var below values h.0 (ap test (sym value) ∙ h.1)),
    )

pub keeps_better : (p : Contents) → NarrowingKeepsBetter p
keeps_better p known some bound values = by (aimed_at p.aim) refl some where
  by : (o : Option ℕ) → aimed_at p.aim ≡ o → IsSome o → IsSolution (csp_of (narrowed p bound)) values ↔ (IsSolution (csp_of p) values × (is_better p.aim bound (aim_value p.aim values) ≡ true))
  by None at is = cc
  by (Some var) at is = keeps_at p bound values var known at

not_true : (b : Bool) → (b ≡ true → ⊥) → b ≡ false
not_true true h = absurd (h refl)
not_true false h = refl

pub decides : (p : Contents) → NarrowingDecides p
decides p known some bound = (
  λ none values h. not_true (is_better p.aim bound (aim_value p.aim values)) (λ better. none values ((keeps_better p known some bound values).1 (h, better))),
  λ none values h.
      let both = (keeps_better p known some bound values).0 h in
      let worse = none values both.0 in
      let clash : true ≡ false = sym both.1 ∙ worse in
      cc,
)
