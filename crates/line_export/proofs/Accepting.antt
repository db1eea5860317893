-- The clauses of a refutation's steps are a proof: each has the property under the formula and those before it.
use Rattle.std.proofs.Common.{◌≡◌, ◌⊎◌, ℕ, zero, suc, ◌-◌, ◌<◌, true, not, List, [], ◌∷◌, ◌++◌, length, map, take, get_or, Option, Some, None, slice_get, is_some, refl, sym, ap, subst, ◌∙◌, inl, inr, arith, MatchOption}
use Rattle.std.specs.Prelude.{ℤ, neg_ℤ, Contains, flat_map}
use Rattle.std.specs.List.{list_all, AllZip}
use Rattle.std.proofs.lemmas.List.{take-map, length-map, get_or-map}
use Rattle.std.proofs.lemmas.List.Elements.{Contains-append_left, Contains-append_right}
use Rattle.std.proofs.lemmas.Option.{slice_get_within, get_or_from_slice_get}
use Rattle.dcsp_defs.specs.declared.nogood.Pair.{Pair}
use Rattle.dcsp_defs.specs.Pairs.{pair_of}
use Rattle.dcsp_defs.specs.Words.{In, below, is_value}
use Rattle.dcsp_defs.specs.Csp.{Constraint, Nogood, PartialAssignment, filled, given_with, domain}
use Rattle.dcsp_defs.specs.declared.Reason.{Reason}
use Rattle.dcsp_defs.specs.declared.Reason.TheVariants.{Rule, Earlier}
use Rattle.dcsp_defs.specs.declared.Step.{Step}
use Rattle.dcsp_defs.specs.Derivation as derivations
use Rattle.dcsp_defs.specs.Derivation.{step_at, IsReason, IsRight, IsRightAt, IsRightNowhere, IsDerivation, IsRefutation}
use Rattle.dcsp_defs.proofs.Lists.{and_left, list_all-In, below-In, get-In}
use Rattle.dcsp_problem.proofs.RisingNumbers.{Contains-In, In-Contains}
use Rattle.dcsp_rule.specs.Rules.{no_rule}
use Rattle.dcsp_rule.specs.Problems.{Contents, csp_of, constraint_of, constraint_at}
use Rattle.rup_check.specs.Propagation.{Forced, given, unit, Conflicts, HasProperty, known_before, IsGood, IsAccepted}
use Rattle.rup_check.specs.Propagation as propagation
use Rattle.rup_check.proofs.PropagationLaws.{contains_head, contains_nil, contains_map, contains_mapped}
use Rattle.line_cnf.proofs.Accepting.{parted, is_given, is_some_value, is_value_some, some_and, some_at}
use Rattle.line_export.specs.Atoms.{has_value, lacks_value}
use Rattle.line_export.specs.Clauses.{Clause, value_clause, exclusion, nogood_clause, reason_clauses, clauses_at, clauses_of, step_clauses, value_clauses, formula, proof}
use Rattle.line_export.proofs.Once.{all_written, contains_flat}

-- each literal of the clause says that a variable has not the value that is known
abbrev IsAgainst : Contents → PartialAssignment → Clause → Type 0
IsAgainst p known clause = (y : ℤ) → Contains clause y → (k : ℕ) × (w : ℤ) × (y ≡ lacks_value (csp_of p) k w) × (known k ≡ Some w)

-- the constraint with a number
pub constraint_is : (p : Contents) (number : ℕ) (c : Constraint) → slice_get (csp_of p).constraints number ≡ Some c → constraint_at p number ≡ c
constraint_is p number c there =
    let l = slice_get_within (csp_of p).constraints number c there in
    let m = length-map p.rules (constraint_of (length p.domains)) in
    let e = get_or-map (constraint_of (length p.domains)) p.rules number no_rule c (omega (arith, l, m)) in
    sym e ∙ get_or_from_slice_get (csp_of p).constraints number c c there

-- a constraint that is false under known values excludes them
pub excluded : (p : Contents) (known : PartialAssignment) (scope : List ℕ) → ((k : ℕ) → In k scope → is_some (known k) ≡ true) → IsAgainst p known (exclusion (csp_of p) known scope)
excluded p known scope all y m =
    let r = contains_map (λ k. lacks_value (csp_of p) k (filled known k)) scope y m in
    (r.0, filled known r.0, sym r.2, is_some_value (known r.0) (all r.0 (In-Contains scope r.0 r.1)))

-- a nogood that agrees excludes them too
agreeing : (p : Contents) (known : PartialAssignment) (pairs : Nogood) → ((y : Pair) → In y pairs → known y.var ≡ Some y.value) → IsAgainst p known (nogood_clause (csp_of p) pairs)
agreeing p known pairs all y m =
    let r = contains_map (λ (z : Pair). lacks_value (csp_of p) z.var z.value) pairs y m in
    (r.0.var, r.0.value, sym r.2, all r.0 (In-Contains pairs r.0 r.1))

-- ---- propagation from the negations of a nogood's clause

module _ (p : Contents) (clauses : List Clause) (pairs : Nogood) where
  abbrev start : List ℤ
  start = map neg_ℤ (nogood_clause (csp_of p) pairs)

  abbrev IsForced : ℤ → Type 0
  IsForced = Forced neg_ℤ clauses start

  from_pair : (y : Pair) → In y pairs → IsForced (neg_ℤ (lacks_value (csp_of p) y.var y.value))
  from_pair y i = given (contains_mapped neg_ℤ (nogood_clause (csp_of p) pairs) (lacks_value (csp_of p) y.var y.value) (contains_mapped (λ (z : Pair). lacks_value (csp_of p) z.var z.value) pairs y (Contains-In pairs y i)))

  -- a clause that is false where x is v conflicts, or forces that x is not v
  excludes : (x : ℕ) (v : ℤ) (clause : Clause) → Contains clauses clause → IsAgainst p (given_with x v pairs) clause → Conflicts neg_ℤ clauses start ⊎ IsForced (lacks_value (csp_of p) x v)
  excludes x v clause c h = elim (parted (λ y. IsForced (neg_ℤ y)) (lacks_value (csp_of p) x v) clause each) [
    | inl m ↦ inr (unit clause c m (λ y n other. elim (each y n) [ inl e ↦ absurd (other e) | inr f ↦ f ]))
    | inr all ↦ inl (inl (clause, c, all))
  ]
    where
      each : (y : ℤ) → Contains clause y → (y ≡ lacks_value (csp_of p) x v) ⊎ IsForced (neg_ℤ y)
      each y m =
          let r = h y m in
          elim (is_given pairs x v r.0 r.1 r.3) [
            | inl e ↦ inl (r.2 ∙ ap (λ k. lacks_value (csp_of p) k r.1) e.0 ∙ ap (lacks_value (csp_of p) x) e.1)
            | inr i ↦ inr (subst (λ z. IsForced (neg_ℤ z)) (sym r.2) (from_pair (pair_of r.0 r.1) i))
          ]

  -- the clause of a variable that has none of its values conflicts
  no_value : (x : ℕ) → Contains clauses (value_clause (csp_of p) x) → ((v : ℤ) → In v (domain (csp_of p) x) → IsForced (lacks_value (csp_of p) x v)) → Conflicts neg_ℤ clauses start
  no_value x c all = inl (value_clause (csp_of p) x, c, λ y m. (let r = contains_map (has_value (csp_of p) x) (domain (csp_of p) x) y m in subst (λ z. IsForced (neg_ℤ z)) r.2 (all r.0 (In-Contains (domain (csp_of p) x) r.0 r.1))))

  module _ (earlier : List Step) (has_earlier : (m : ℕ) (t : Step) → step_at earlier m ≡ Some t → Contains clauses (nogood_clause (csp_of p) t.nogood)) (x : ℕ) where
    by_reason : (v : ℤ) (r : Reason) → ((c : Clause) → Contains (reason_clauses p (given_with x v pairs) r) c → Contains clauses c) → IsReason (csp_of p) earlier pairs x v r → Conflicts neg_ℤ clauses start ⊎ IsForced (lacks_value (csp_of p) x v)
    by_reason v (Rule number) has (c, there, violated) =
        let known = given_with x v pairs in
        let is = constraint_is p number c there in
        let some = and_left (list_all (λ k. is_some (known k)) c.scope) (not (c.test (filled known))) violated in
        excludes x v (exclusion (csp_of p) known (constraint_at p number).scope) (has (exclusion (csp_of p) known (constraint_at p number).scope) (contains_head (exclusion (csp_of p) known (constraint_at p number).scope) []))
        (excluded p known (constraint_at p number).scope (λ k i. list_all-In (λ j. is_some (known j)) k c.scope some (subst (λ d. In k d.scope) is i)))
    by_reason v (Earlier number) has (t, there, agrees) =
        let known = given_with x v pairs in
        excludes x v (nogood_clause (csp_of p) t.nogood) (has_earlier number t there)
        (agreeing p known t.nogood (λ y i. is_value_some (known y.var) y.value (list_all-In (λ (z : Pair). is_value (known z.var) z.value) y t.nogood agrees i)))

    by_reasons : (vs : List ℤ) (rs : List Reason) → ((c : Clause) → Contains (clauses_at p pairs x vs rs) c → Contains clauses c) → AllZip (IsReason (csp_of p) earlier pairs x) vs rs → Conflicts neg_ℤ clauses start ⊎ ((v : ℤ) → In v vs → IsForced (lacks_value (csp_of p) x v))
    by_reasons [] rs has z = inr (λ v i. absurd i)
    by_reasons (v ∷ vs) [] has z = absurd z
    by_reasons (v ∷ vs) (r ∷ rs) has z =
        both (by_reason v r (λ c m. has c (Contains-append_left (reason_clauses p (given_with x v pairs) r) (clauses_at p pairs x vs rs) c m)) z.0)
        (by_reasons vs rs (λ c m. has c (Contains-append_right (reason_clauses p (given_with x v pairs) r) (clauses_at p pairs x vs rs) c m)) z.1)
      where
        both : Conflicts neg_ℤ clauses start ⊎ IsForced (lacks_value (csp_of p) x v) → Conflicts neg_ℤ clauses start ⊎ ((w : ℤ) → In w vs → IsForced (lacks_value (csp_of p) x w)) → Conflicts neg_ℤ clauses start ⊎ ((w : ℤ) → In w (v ∷ vs) → IsForced (lacks_value (csp_of p) x w))
        both (inl a) b = inl a
        both (inr a) (inl b) = inl b
        both (inr a) (inr b) = inr each
          where
            each : (w : ℤ) → In w (v ∷ vs) → IsForced (lacks_value (csp_of p) x w)
            each w (inl e) = subst (λ u. IsForced (lacks_value (csp_of p) x u)) (sym e) a
            each w (inr i) = b w i

-- ---- steps

module _ (p : Contents) (clauses : List Clause) (has_values : (x : ℕ) → x < length p.domains → Contains clauses (value_clause (csp_of p) x)) where
  -- the clause of a right step has the property
  step_good : (earlier : List Step) → ((m : ℕ) (t : Step) → step_at earlier m ≡ Some t → Contains clauses (nogood_clause (csp_of p) t.nogood)) → (s : Step) → ((c : Clause) → Contains (step_clauses p s) c → Contains clauses c) → IsRight (csp_of p) earlier s → HasProperty neg_ℤ clauses (nogood_clause (csp_of p) s.nogood)
  step_good earlier has_earlier s has r = of s.variable refl r
    where
      of : (o : Option ℕ) → s.variable ≡ o → MatchOption o (IsRightNowhere (csp_of p) s) (λ x. IsRightAt (csp_of p) earlier x s) → HasProperty neg_ℤ clauses (nogood_clause (csp_of p) s.nogood)
      of None e k = inl ([], has [] (subst (λ o. Contains (clauses_of p s o) []) (sym e) (contains_head [] [])), λ y m. absurd (contains_nil y m))
      of (Some x) e k =
          elim (by_reasons p clauses s.nogood earlier has_earlier x (domain (csp_of p) x) s.reasons (λ c m. has c (subst (λ o. Contains (clauses_of p s o) c) (sym e) m)) k.reasons) [
            | inl conflict ↦ conflict
            | inr all ↦ no_value p clauses s.nogood x (has_values x k.variable) all
          ]

module _ (p : Contents) (steps : List Step) where
  abbrev nogood_of : Step → Clause
  nogood_of step = nogood_clause (csp_of p) step.nogood

  values_there : (x : ℕ) → x < length p.domains → Contains (formula p steps) (value_clause (csp_of p) x)
  values_there x l = all_written (value_clauses p ++ flat_map (step_clauses p) steps) (value_clause (csp_of p) x)
      (Contains-append_left (value_clauses p) (flat_map (step_clauses p) steps) (value_clause (csp_of p) x) (contains_mapped (value_clause (csp_of p)) (below (length p.domains)) x (Contains-In (below (length p.domains)) x (below-In (length p.domains) x l))))

  step_there : (s : Step) → In s steps → (c : Clause) → Contains (step_clauses p s) c → Contains (formula p steps) c
  step_there s i c m = all_written (value_clauses p ++ flat_map (step_clauses p) steps) c
      (Contains-append_right (value_clauses p) (flat_map (step_clauses p) steps) c (contains_flat (step_clauses p) steps s i c m))

  earlier_there : (k m : ℕ) (t : Step) → step_at (take k steps) m ≡ Some t → Contains (known_before (formula p steps) (proof p steps) k) (nogood_of t)
  earlier_there k zero t e = absurd cc
  earlier_there k (suc m) t e =
      Contains-append_right (formula p steps) (take k (proof p steps)) (nogood_of t)
      (subst (λ l. Contains l (nogood_of t)) (sym (take-map nogood_of k steps)) (contains_mapped nogood_of (take k steps) t (Contains-In (take k steps) t (get-In (take k steps) m t e))))

  module _ (right : IsDerivation (csp_of p) steps) where
    good_at : (k : ℕ) (s : Step) → slice_get steps k ≡ Some s → IsGood neg_ℤ (formula p steps) (proof p steps) k
    good_at k s e =
        let l = slice_get_within steps k s e in
        let known = known_before (formula p steps) (proof p steps) k in
        let is : get_or (proof p steps) k [] ≡ nogood_of s = get_or-map nogood_of steps k s [] l ∙ ap nogood_of (get_or_from_slice_get steps k s s e) in
        let old : (c : Clause) → Contains (formula p steps) c → Contains known c = λ c m. Contains-append_left (formula p steps) (take k (proof p steps)) c m in
        subst (HasProperty neg_ℤ known) (sym is)
        (step_good p known (λ x l. old (value_clause (csp_of p) x) (values_there x l)) (take k steps) (earlier_there k) s (λ c m. old c (step_there s (get-In steps k s e) c m)) (right k s e))

    all_good : (k : ℕ) → k < length (proof p steps) → IsGood neg_ℤ (formula p steps) (proof p steps) k
    all_good k l = let c = length-map steps nogood_of in let r = some_at steps k (omega (arith, c, l)) in good_at k r.0 r.1

  ends_empty : derivations.EndsEmpty steps → propagation.EndsEmpty (proof p steps)
  ends_empty e =
      let r = some_and (λ (s : Step). s.nogood ≡ []) (slice_get steps (length steps - 1)) e in
      let l = slice_get_within steps (length steps - 1) r.0 r.1 in
      let c = length-map steps nogood_of in
      let is : get_or (proof p steps) (length steps - 1) [] ≡ nogood_of r.0 = get_or-map nogood_of steps (length steps - 1) r.0 [] l ∙ ap nogood_of (get_or_from_slice_get steps (length steps - 1) r.0 r.0 r.1) in
      (omega (arith, c, l), ap (λ k. get_or (proof p steps) (k - 1) []) c ∙ is ∙ ap (nogood_clause (csp_of p)) r.2)

-- the proof of a refutation is accepted for its formula
pub accepted : (p : Contents) (steps : List Step) → IsRefutation (csp_of p) steps → IsAccepted neg_ℤ (formula p steps) (proof p steps)
accepted p steps r = (all_good p steps r.right, ends_empty p steps r.ends)
