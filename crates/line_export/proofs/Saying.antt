-- Each clause of an exported formula is a variable's or a constraint's, and follows from it.
use Rattle.std.proofs.Common.{◌≡◌, ◌≢◌, ◌⊎◌, ℕ, suc, ◌<◌, ◌==◌, Bool, true, false, not, List, [], ◌∷◌, ◌++◌, length, take, Option, Some, None, slice_get, is_some, refl, sym, ap, subst, ◌∙◌, inl, inr, arith, MatchOption}
use Rattle.std.specs.Prelude.{ℤ, Contains, flat_map}
use Rattle.std.specs.List.{list_all, AllZip}
use Rattle.std.specs.Ordering.{int_eq}
use Rattle.std.proofs.lemmas.Bool.{eqb-true, eq-eqb}
use Rattle.std.proofs.lemmas.Bool.Decides.{Decides-int_eq}
use Rattle.std.proofs.lemmas.List.Elements.{Contains-append_cases}
use Rattle.dcsp_defs.specs.Pairs.{pair_of}
use Rattle.dcsp_defs.specs.Words.{In, below}
use Rattle.dcsp_defs.specs.Csp.{Csp, IsCsp, IsConstraint, Constraint, PartialAssignment, Assignment, filled, given_with, domain, count}
use Rattle.dcsp_defs.specs.declared.Reason.{Reason}
use Rattle.dcsp_defs.specs.declared.Reason.TheVariants.{Rule, Earlier}
use Rattle.dcsp_defs.specs.declared.Step.{Step}
use Rattle.dcsp_defs.specs.Derivation.{IsReason, IsRight, IsRightAt, IsRightNowhere, IsDerivation}
use Rattle.dcsp_defs.proofs.Lists.{and_left, and_right, list_all-In, list_any-In, In-list_any, In-below, below-In, get-In}
use Rattle.dcsp_problem.proofs.RisingNumbers.{Contains-In, In-Contains}
use Rattle.dcsp_rule.specs.Problems.{Contents, csp_of, constraint_at}
use Rattle.rup_check.proofs.PropagationLaws.{contains_cases, contains_nil, contains_map, contains_mapped}
use Rattle.line_cnf.proofs.Accepting.{is_given, is_some_value}
use Rattle.line_export.specs.Atoms.{atoms_before, has_value, lacks_value, is_true_atom, HasValues}
use Rattle.line_export.specs.Clauses.{Clause, value_clause, exclusion, reason_clauses, clauses_at, clauses_of, step_clauses, value_clauses, formula}
use Rattle.line_export.specs.Exporting.{IsTrueOf, IsOfVariable, IsOfConstraint, SaysProblem}
use Rattle.line_export.proofs.Numbering.{one_atom}
use Rattle.line_export.proofs.Accepting.{constraint_is}
use Rattle.line_export.proofs.Once.{only_written, flat_contains}

-- ---- atoms of an assignment

module _ (p : Csp) (values : Assignment) where
  -- the atom of a variable's value is true
  own_true : (k : ℕ) → k < count p → is_true_atom p values (suc (atoms_before p k (values k))) ≡ true
  own_true k l = list_any-In (λ j. suc (atoms_before p k (values k)) == suc (atoms_before p j (values j))) k (below (count p)) (below-In (count p) k l) (eq-eqb _ _ refl)

  -- and no atom of another of its values
  other_false : HasValues p values → (k : ℕ) (w : ℤ) → In w (domain p k) → values k ≢ w → is_true_atom p values (suc (atoms_before p k w)) ≡ false
  other_false has k w i differs = of (is_true_atom p values (suc (atoms_before p k w))) refl
    where
      of : (b : Bool) → is_true_atom p values (suc (atoms_before p k w)) ≡ b → b ≡ false
      of true e =
          let r = In-list_any (λ j. suc (atoms_before p k w) == suc (atoms_before p j (values j))) (below (count p)) e in
          let s : suc (atoms_before p k w) ≡ suc (atoms_before p r.0 (values r.0)) = eqb-true _ _ r.2 in
          let l = In-below (count p) r.0 r.1 in
          let same = one_atom p k r.0 w (values r.0) i (has r.0 l) (omega (arith, s)) in
          absurd (differs (ap values same.0 ∙ sym same.1))
      of false e = refl

-- ---- clauses of variables

module _ (p : Csp) where
  variable_said : (k : ℕ) → k < count p → IsOfVariable p (value_clause p k)
  variable_said k l = record {
    variable = k;
    within = l;
    is = refl;
    holds = λ values has. (has_value p k (values k), contains_mapped (has_value p k) (domain p k) (values k) (Contains-In (domain p k) (values k) (has k l)), own_true p values k l);
  }

-- ---- clauses of constraints

-- the values are those that are known, or one differs
one_differs : (values : Assignment) (known : PartialAssignment) (scope : List ℕ) → ((k : ℕ) → In k scope → values k ≡ filled known k) ⊎ ((k : ℕ) × In k scope × (values k ≢ filled known k))
one_differs values known [] = inl (λ k i. absurd i)
one_differs values known (j ∷ scope) = of (int_eq (values j) (filled known j)) refl (one_differs values known scope)
  where
    of : (b : Bool) → int_eq (values j) (filled known j) ≡ b → ((k : ℕ) → In k scope → values k ≡ filled known k) ⊎ ((k : ℕ) × In k scope × (values k ≢ filled known k)) → ((k : ℕ) → In k (j ∷ scope) → values k ≡ filled known k) ⊎ ((k : ℕ) × In k (j ∷ scope) × (values k ≢ filled known k))
    of false e rest = inr (j, inl refl, λ same. (let is = (Decides-int_eq (values j) (filled known j)).1 same in cc))
    of true e (inr r) = inr (r.0, inr r.1, r.2)
    of true e (inl all) = inl each
      where
        each : (k : ℕ) → In k (j ∷ scope) → values k ≡ filled known k
        each k (inl is) = subst (λ n. values n ≡ filled known n) (sym is) ((Decides-int_eq (values j) (filled known j)).0 e)
        each k (inr i) = all k i

-- each variable of the scope has a known value of its domain
abbrev AreKnown : Csp → PartialAssignment → List ℕ → Type 0
AreKnown p known scope = (k : ℕ) → In k scope → In (filled known k) (domain p k)

-- The clause excludes known values of the scope of a constraint, which is false under them.
pub record IsExcluding (p : Csp) (clause : Clause) : Type 0 where
  pub number : ℕ
  pub constraint : Constraint
  pub there : slice_get p.constraints number ≡ Some constraint
  pub known : PartialAssignment
  pub is : clause ≡ exclusion p known constraint.scope
  pub are : AreKnown p known constraint.scope
  pub untrue : constraint.test (filled known) ≡ false

module _ (p : Csp) (ok : IsCsp p) (clause : Clause) (e : IsExcluding p clause) where
  pub constraint_ok : IsConstraint p e.constraint
  constraint_ok = ok.constraints e.constraint (get-In p.constraints e.number e.constraint e.there)

  -- so it follows from the constraint
  excluding_said : IsOfConstraint p clause
  excluding_said = record { number = e.number; constraint = e.constraint; there = e.there; known = e.known; is = e.is; follows = follows }
    where
      follows : (values : Assignment) → HasValues p values → e.constraint.test values ≡ true → IsTrueOf p values clause
      follows values has holds = elim (one_differs values e.known e.constraint.scope) [
        | inl all ↦ absurd (let same = constraint_ok.local values (filled e.known) all in let untrue = e.untrue in cc)
        | inr r ↦ subst (IsTrueOf p values) (sym e.is) (
          lacks_value p r.0 (filled e.known r.0),
          contains_mapped (λ k. lacks_value p k (filled e.known k)) e.constraint.scope r.0 (Contains-In e.constraint.scope r.0 r.1),
          ap not (other_false p values has r.0 (filled e.known r.0) (e.are r.0 r.1) r.2),
        )
      ]

not_false : (b : Bool) → not b ≡ true → b ≡ false
not_false true h = cc
not_false false h = refl

module _ (p : Contents) where
  -- values of a right step are known and of their domains
  module _ (earlier : List Step) (s : Step) (x : ℕ) (right : IsRightAt (csp_of p) earlier x s) where
    known_in : (v : ℤ) → In v (domain (csp_of p) x) → (k : ℕ) (w : ℤ) → given_with x v s.nogood k ≡ Some w → In w (domain (csp_of p) k)
    known_in v i k w e = elim (is_given s.nogood x v k w e) [
      | inl t ↦ subst (λ u. In u (domain (csp_of p) k)) (sym t.1) (subst (λ n. In v (domain (csp_of p) n)) (sym t.0) i)
      | inr j ↦ (right.pairs (pair_of k w) j).value
    ]

    reason_said : (v : ℤ) (r : Reason) → In v (domain (csp_of p) x) → IsReason (csp_of p) earlier s.nogood x v r → (c : Clause) → Contains (reason_clauses p (given_with x v s.nogood) r) c → IsExcluding (csp_of p) c
    reason_said v (Rule number) i (d, there, violated) c m =
        let known = given_with x v s.nogood in
        let is = constraint_is p number d there in
        let some = and_left (list_all (λ k. is_some (known k)) d.scope) (not (d.test (filled known))) violated in
        let untrue = not_false (d.test (filled known)) (and_right (list_all (λ k. is_some (known k)) d.scope) (not (d.test (filled known))) violated) in
        let are : AreKnown (csp_of p) known d.scope = λ k j. known_in v i k (filled known k) (is_some_value (known k) (list_all-In (λ n. is_some (known n)) k d.scope some j)) in
        elim (contains_cases (exclusion (csp_of p) known (constraint_at p number).scope) [] c m) [
          | inl e ↦ record { number = number; constraint = d; there = there; known = known; is = sym e ∙ ap (λ (q : Constraint). exclusion (csp_of p) known q.scope) is; are = are; untrue = untrue }
          | inr none ↦ absurd (contains_nil c none)
        ]
    reason_said v (Earlier number) i h c m = absurd (contains_nil c m)

    reasons_said : (vs : List ℤ) (rs : List Reason) → ((v : ℤ) → In v vs → In v (domain (csp_of p) x)) → AllZip (IsReason (csp_of p) earlier s.nogood x) vs rs → (c : Clause) → Contains (clauses_at p s.nogood x vs rs) c → IsExcluding (csp_of p) c
    reasons_said [] rs within z c m = absurd (contains_nil c m)
    reasons_said (v ∷ vs) [] within z c m = absurd z
    reasons_said (v ∷ vs) (r ∷ rs) within z c m = elim (Contains-append_cases (reason_clauses p (given_with x v s.nogood) r) (clauses_at p s.nogood x vs rs) c m) [
      | inl here ↦ reason_said v r (within v (inl refl)) z.0 c here
      | inr later ↦ reasons_said vs rs (λ w i. within w (inr i)) z.1 c later
    ]

  -- a false constraint without variables is the empty clause
  nowhere_said : (s : Step) → IsRightNowhere (csp_of p) s → IsExcluding (csp_of p) []
  nowhere_said s k =
      let a = k.alone in
      let none : PartialAssignment = λ j. None in
      record { number = k.number; constraint = a.constraint; there = a.there; known = none; is = ap (exclusion (csp_of p) none) (sym a.scope); are = λ j i. absurd (subst (In j) a.scope i); untrue = a.violated }

  step_said : (earlier : List Step) (s : Step) → IsRight (csp_of p) earlier s → (c : Clause) → Contains (step_clauses p s) c → IsExcluding (csp_of p) c
  step_said earlier s r c m = of s.variable r m
    where
      of : (o : Option ℕ) → MatchOption o (IsRightNowhere (csp_of p) s) (λ x. IsRightAt (csp_of p) earlier x s) → Contains (clauses_of p s o) c → IsExcluding (csp_of p) c
      of None k m = elim (contains_cases [] [] c m) [ inl e ↦ subst (IsExcluding (csp_of p)) e (nowhere_said s k) | inr none ↦ absurd (contains_nil c none) ]
      of (Some x) k m = reasons_said earlier s x k (domain (csp_of p) x) s.reasons (λ v i. i) k.reasons c m

  -- each clause of a derivation's formula is a variable's, or excludes values
  pub clause_is : (steps : List Step) → IsDerivation (csp_of p) steps → (c : Clause) → Contains (formula p steps) c → ((k : ℕ) × (k < length p.domains) × (c ≡ value_clause (csp_of p) k)) ⊎ IsExcluding (csp_of p) c
  clause_is steps right c m = elim (Contains-append_cases (value_clauses p) (flat_map (step_clauses p) steps) c (only_written (value_clauses p ++ flat_map (step_clauses p) steps) c m)) [
    | inl here ↦ (let r = contains_map (value_clause (csp_of p)) (below (length p.domains)) c here in inl (r.0, In-below (length p.domains) r.0 (In-Contains (below (length p.domains)) r.0 r.1), sym r.2))
    | inr later ↦ (
        let r = flat_contains (step_clauses p) steps c later in
        let at = found_at steps r.0 r.1 in
        inr (step_said (take at.0 steps) r.0 (right at.0 r.0 at.1) c r.2))
  ]
    where
      found_at : (xs : List Step) (s : Step) → In s xs → (k : ℕ) × (slice_get xs k ≡ Some s)
      found_at [] s i = absurd i
      found_at (y ∷ ys) s (inl e) = (0, ap Some (sym e))
      found_at (y ∷ ys) s (inr i) = let r = found_at ys s i in (suc r.0, r.1)

  -- so it says no more than the problem
  pub says : IsCsp (csp_of p) → (steps : List Step) → IsDerivation (csp_of p) steps → SaysProblem (csp_of p) (formula p steps)
  says ok steps right c m = elim (clause_is steps right c m) [
    | inl v ↦ inl (subst (IsOfVariable (csp_of p)) (sym v.2) (variable_said (csp_of p) v.0 v.1))
    | inr e ↦ inr (excluding_said (csp_of p) ok c e)
  ]
