-- The clauses of a derivation's steps are a proof: each has the property under the formula and those before it.
use Rattle.std.proofs.Common.{◌≡◌, ◌⊎◌, ℕ, zero, suc, ◌+◌, ◌-◌, ◌<◌, Bool, true, false, not, List, [], ◌∷◌, ◌++◌, length, map, take, get_or, Option, Some, None, slice_get, is_some, unwrap_or, refl, sym, ap, subst, ◌∙◌, inl, inr, arith, MatchOption}
use Rattle.std.specs.Prelude.{ℤ, pos, negsuc, neg_ℤ, All, Contains, IsSomeAnd}
use Rattle.std.specs.List.{list_all, filter_map, AllZip}
use Rattle.std.proofs.lemmas.Bool.Decides.{eqb_tells, Decides-int_eq}
use Rattle.std.proofs.lemmas.List.{take-map, length-map, get_or-map}
use Rattle.std.proofs.lemmas.List.Elements.{All-contains, Contains-append_left, Contains-append_right, Contains-append_cases}
use Rattle.std.proofs.lemmas.Option.{slice_get_within, get_or_from_slice_get}
use Rattle.dcsp_meaning.specs.Words.{is_one}
use Rattle.dcsp_defs.specs.declared.nogood.Pair.{Pair}
use Rattle.dcsp_defs.specs.Pairs.{value_at, pair_of}
use Rattle.dcsp_defs.specs.Words.{In, is_value}
use Rattle.dcsp_defs.specs.Csp.{Constraint, Nogood, PartialAssignment, is_violated, filled, given_with, domain}
use Rattle.dcsp_defs.specs.declared.Reason.{Reason}
use Rattle.dcsp_defs.specs.declared.Reason.TheVariants.{Rule, Earlier}
use Rattle.dcsp_defs.specs.declared.Step.{Step}
use Rattle.dcsp_defs.specs.Derivation as derivations
use Rattle.dcsp_defs.specs.Derivation.{step_at, IsReason, IsRight, IsRightAt, IsRightNowhere, IsDerivation, IsRefutation, IsKnownPair, IsFalseAlone}
use Rattle.dcsp_defs.proofs.Lists.{In-left, In-right, and_left, and_right, list_all-In, get-In}
use Rattle.dcsp_rule.specs.declared.rule.Term.{Term}
use Rattle.dcsp_rule.specs.declared.rule.Term.TheVariants.{Const, Var}
use Rattle.dcsp_rule.specs.declared.rule.Rule as rules
use Rattle.dcsp_rule.specs.declared.rule.Rule.TheVariants.{Plain, Sum}
use Rattle.dcsp_rule.specs.Rules.{IsRuleOf, variable_of, scope_of, rule_truth}
use Rattle.dcsp_rule.specs.Problems.{Contents, csp_of, constraint_of}
use Rattle.dcsp_problem.proofs.RisingNumbers.{Contains-In}
use Rattle.dcsp_problem.proofs.Scopes.{In-scope}
use Rattle.rup_check.specs.Literals.{is_true}
use Rattle.rup_check.specs.Propagation.{Forced, given, unit, IsConflict, Conflicts, HasProperty, known_before, IsGood, IsAccepted}
use Rattle.rup_check.specs.Propagation as propagation
use Rattle.rup_check.proofs.PropagationLaws.{contains_head, contains_cons, contains_nil, contains_map, contains_mapped}
use Rattle.cnf_front.specs.Clauses.{literal_against, clause_of, literal_of, negation_of, rule_clause, IsVariable, IsClauseRule}
use Rattle.line_cnf.specs.Satisfying.{clauses_of, step_clause, truths}
use Rattle.line_cnf.proofs.Satisfying.{variable_true, negation_true, rules_are_clauses, in_of}
use Rattle.line_cnf.proofs.Domains.{HasBinary, binary, count_is, domain_is, value_is}

-- ---- a literal among those of a clause

-- each item is this one or has S: then this one is among them, or all have S
pub parted : {X : Type 0} (S : X → Type 0) (l : X) (xs : List X) → ((y : X) → Contains xs y → (y ≡ l) ⊎ S y) → Contains xs l ⊎ ((y : X) → Contains xs y → S y)
parted S l [] h = inr (λ y c. absurd (contains_nil y c))
parted {X = X} S l (x ∷ xs) h = of (h x (contains_head x xs)) (parted S l xs (λ y c. h y (contains_cons x xs y c)))
  where
    of : (x ≡ l) ⊎ S x → Contains xs l ⊎ ((y : X) → Contains xs y → S y) → Contains (x ∷ xs) l ⊎ ((y : X) → Contains (x ∷ xs) y → S y)
    of (inl e) r = inl (subst (Contains (x ∷ xs)) e (contains_head x xs))
    of (inr s) (inl c) = inl (contains_cons x xs l c)
    of (inr s) (inr all) = inr each
      where
        each : (y : X) → Contains (x ∷ xs) y → S y
        each y (zero, l, e) = subst S e s
        each y (suc k, l, e) = all y (k, omega arith, e)

-- ---- what the values with v at x are

-- a pair that the nogood has, or that of x and v
abbrev pub IsGiven : Nogood → ℕ → ℤ → ℕ → ℤ → Type 0
IsGiven pairs x v k w = ((k ≡ x) × (w ≡ v)) ⊎ In (pair_of k w) pairs

value_in : (pairs : Nogood) (k : ℕ) (w : ℤ) → value_at pairs k ≡ Some w → In (pair_of k w) pairs
value_in [] k w e = absurd cc
value_in (y ∷ ys) k w e = elim (eqb_tells k y.var) [
  | inl t ↦ (let q : Some y.value ≡ Some w = rw t.0 at e in let u : y.value ≡ w = cc in let s = t.1 in inl (same y s u))
  | inr t ↦ inr (value_in ys k w (rw t.0 at e))
]
  where
    same : (y : Pair) → k ≡ y.var → y.value ≡ w → pair_of k w ≡ y
    same y s u = ap (λ (i : ℕ). pair_of i w) s ∙ ap (λ (z : ℤ). pair_of y.var z) (sym u)

pub is_given : (pairs : Nogood) (x : ℕ) (v : ℤ) (k : ℕ) (w : ℤ) → given_with x v pairs k ≡ Some w → IsGiven pairs x v k w
is_given pairs x v k w e = elim (eqb_tells k x) [
  | inl t ↦ (let q : Some v ≡ Some w = rw t.0 at e in let u : v ≡ w = cc in inl (t.1, sym u))
  | inr t ↦ inr (value_in pairs k w (rw t.0 at e))
]

-- each literal of the clause is against a value that is known
abbrev IsAgainst : PartialAssignment → List ℤ → Type 0
IsAgainst known clause = (y : ℤ) → Contains clause y → (k : ℕ) × (w : ℤ) × (y ≡ literal_against k w) × (known k ≡ Some w)

-- ---- propagation from the negations of a nogood's clause

module _ (formula : List (List ℤ)) (pairs : Nogood) where
  abbrev start : List ℤ
  start = map neg_ℤ (clause_of pairs)

  abbrev IsForced : ℤ → Type 0
  IsForced = Forced neg_ℤ formula start

  from_pair : (y : Pair) → In y pairs → IsForced (neg_ℤ (literal_against y.var y.value))
  from_pair y i = given (contains_mapped neg_ℤ (clause_of pairs) (literal_against y.var y.value) (contains_mapped (λ (z : Pair). literal_against z.var z.value) pairs y (Contains-In pairs y i)))

  -- a clause that is false where x is v conflicts, or forces that x is not v
  excludes : (x : ℕ) (v : ℤ) (clause : List ℤ) → Contains formula clause → IsAgainst (given_with x v pairs) clause → Conflicts neg_ℤ formula start ⊎ IsForced (literal_against x v)
  excludes x v clause c h = elim (parted (λ y. IsForced (neg_ℤ y)) (literal_against x v) clause each) [
    | inl m ↦ inr (unit clause c m (λ y n other. elim (each y n) [ inl e ↦ absurd (other e) | inr f ↦ f ]))
    | inr all ↦ inl (inl (clause, c, all))
  ]
    where
      each : (y : ℤ) → Contains clause y → (y ≡ literal_against x v) ⊎ IsForced (neg_ℤ y)
      each y m =
          let r = h y m in
          elim (is_given pairs x v r.0 r.1 r.3) [
            | inl e ↦ inl (r.2 ∙ ap (λ k. literal_against k r.1) e.0 ∙ ap (literal_against x) e.1)
            | inr i ↦ inr (subst (λ z. IsForced (neg_ℤ z)) (sym r.2) (from_pair (pair_of r.0 r.1) i))
          ]

  -- where x is neither 0 nor 1 there is a conflict
  neither : (x : ℕ) → IsForced (literal_against x (pos 0)) → IsForced (literal_against x (pos 1)) → Conflicts neg_ℤ formula start
  neither x a b = let e : x + 1 ≡ suc x = omega arith in inr (pos (x + 1), a, subst IsForced (sym (ap (λ n. neg_ℤ (pos n)) e)) b)

  both : (x : ℕ) → Conflicts neg_ℤ formula start ⊎ IsForced (literal_against x (pos 0)) → Conflicts neg_ℤ formula start ⊎ IsForced (literal_against x (pos 1)) → Conflicts neg_ℤ formula start
  both x (inl a) b = a
  both x (inr a) (inl b) = b
  both x (inr a) (inr b) = neither x a b

pub is_some_value : (o : Option ℤ) → is_some o ≡ true → o ≡ Some (unwrap_or o (pos 0))
is_some_value None h = cc
is_some_value (Some v) h = refl

pub is_value_some : (o : Option ℤ) (v : ℤ) → is_value o v ≡ true → o ≡ Some v
is_value_some None v h = cc
is_value_some (Some w) v h = ap Some ((Decides-int_eq w v).0 h)

not_true : (b : Bool) → (b ≡ true → ⊥) → b ≡ false
not_true true h = absurd (h refl)
not_true false h = refl

true_of_not : (b : Bool) → (not b ≡ true → ⊥) → b ≡ true
true_of_not true h = refl
true_of_not false h = absurd (h refl)

pub some_and : {X : Type 0} → (P : X → Type 0) (o : Option X) → IsSomeAnd o P → (x : X) × (o ≡ Some x) × P x
some_and P None h = absurd h
some_and P (Some x) h = (x, refl, h)

pub some_at : {X : Type 0} (xs : List X) (k : ℕ) → k < length xs → (x : X) × (slice_get xs k ≡ Some x)
some_at [] k l = absurd (omega arith)
some_at (x ∷ xs) zero l = (x, refl)
some_at (x ∷ xs) (suc k) l = some_at xs k (omega arith)

found_before : {X Y : Type 0} (f : X → Y) (xs : List X) (k : ℕ) (y : Y) → slice_get (map f xs) k ≡ Some y → (x : X) × Contains xs x × (f x ≡ y)
found_before f [] zero y e = absurd cc
found_before f [] (suc k) y e = absurd cc
found_before f (x ∷ xs) zero y e = (x, contains_head x xs, (let g : f x ≡ y = cc in g))
found_before f (x ∷ xs) (suc k) y e = let r = found_before f xs k y e in (r.0, contains_cons x xs r.0 r.1, r.2)

-- a term that is a variable is one of the variables of the terms
var_in : (ts : List Term) (k : ℕ) → In (Var k) ts → In k (filter_map variable_of ts)
var_in [] k i = absurd i
var_in (Const c ∷ ts) k (inl e) = absurd cc
var_in (Const c ∷ ts) k (inr i) = var_in ts k i
var_in (Var j ∷ ts) k (inl e) = inl (let same : k ≡ j = cc in same)
var_in (Var j ∷ ts) k (inr i) = inr (var_in ts k i)

-- ---- literals of a rule's clause

-- a variable of the scope, or its negation
pub data IsOfScope (variables : ℕ) (rule : rules.Rule) (y : ℤ) : Type 0 where
  plain_one : (k : ℕ) → In k (scope_of variables rule) → y ≡ pos (k + 1) → IsOfScope variables rule y
  negated_one : (k : ℕ) → In k (scope_of variables rule) → y ≡ negsuc k → IsOfScope variables rule y

module _ (variables : ℕ) where
  pub literal_of_scope : (rule : rules.Rule) → IsClauseRule rule → IsRuleOf variables rule → (y : ℤ) → Contains (rule_clause rule) y → IsOfScope variables rule y
  literal_of_scope (Plain kind s f t m) i r y c = elim (Contains-append_cases (map literal_of f) (map negation_of t) y c) [
    | inl a ↦ (let u = contains_map literal_of f y a in first u.0 (in_of f u.0 u.1) (All-contains IsVariable f u.0 i.1 u.1) u.2)
    | inr a ↦ (let u = contains_map negation_of t y a in second u.0 (in_of t u.0 u.1) (All-contains IsVariable t u.0 i.2 u.1) u.2)
  ]
    where
      in_scope : (k : ℕ) → In (Var k) (s ++ f ++ t) → In k (scope_of variables (Plain kind s f t m))
      in_scope k u = In-scope variables (Plain kind s f t m) r k (var_in (s ++ f ++ t) k u)

      first : (term : Term) → In term f → IsVariable term → literal_of term ≡ y → IsOfScope variables (Plain kind s f t m) y
      first (Var k) u v e = plain_one k (in_scope k (In-left (Var k) (s ++ f) t (In-right (Var k) s f u))) (sym e)
      first (Const w) u v e = absurd v

      second : (term : Term) → In term t → IsVariable term → negation_of term ≡ y → IsOfScope variables (Plain kind s f t m) y
      second (Var k) u v e = negated_one k (in_scope k (In-right (Var k) (s ++ f) t u)) (sym e)
      second (Const w) u v e = absurd v
  literal_of_scope (Sum rel coefs terms total told) i r y c = absurd i

  -- a clause that is false where the known values are 0 or 1 has literals against them alone
  rule_against : (known : PartialAssignment) → ((k : ℕ) (w : ℤ) → known k ≡ Some w → (w ≡ pos 0) ⊎ (w ≡ pos 1)) → (rule : rules.Rule) → IsClauseRule rule → IsRuleOf variables rule → is_violated known (constraint_of variables rule) ≡ true → IsAgainst known (rule_clause rule)
  rule_against known bits rule i r violated y c = of (literal_of_scope rule i r y c)
    where
      value : ℕ → ℤ
      value k = unwrap_or (known k) (pos 0)

      known_in : (k : ℕ) → In k (scope_of variables rule) → known k ≡ Some (value k)
      known_in k u = is_some_value (known k) (list_all-In (λ j. is_some (known j)) k (scope_of variables rule) (and_left (list_all (λ j. is_some (known j)) (scope_of variables rule)) (not (rule_truth rule (filled known))) violated) u)

      untrue : is_true (truths (filled known)) y ≡ true → ⊥
      untrue t =
          let a : rule_truth rule (filled known) ≡ true = (rules_are_clauses rule (filled known) i).1 (y, c, t) in
          let b : not (rule_truth rule (filled known)) ≡ true = and_right (list_all (λ j. is_some (known j)) (scope_of variables rule)) (not (rule_truth rule (filled known))) violated in
          let d : not (rule_truth rule (filled known)) ≡ false = ap not a in cc

      of : IsOfScope variables rule y → (k : ℕ) × (w : ℤ) × (y ≡ literal_against k w) × (known k ≡ Some w)
      of (plain_one k u e) = elim (bits k (value k) (known_in k u)) [
        | inl z ↦ (k, value k, e ∙ sym (ap (literal_against k) z), known_in k u)
        | inr z ↦ absurd (untrue (ap (is_true (truths (filled known))) e ∙ variable_true (filled known) k ∙ ap is_one z))
      ]
      of (negated_one k u e) = elim (bits k (value k) (known_in k u)) [
        | inl z ↦ absurd (untrue (ap (is_true (truths (filled known))) e ∙ negation_true (filled known) k ∙ ap (λ w. not (is_one w)) z))
        | inr z ↦ (k, value k, e ∙ sym (ap (literal_against k) z), known_in k u)
      ]

-- ---- steps of a formula's problem

module _ (p : Contents) (n : ℕ) (h : HasBinary p n) (clausal : All IsClauseRule p.rules) (known_rules : All (IsRuleOf (length p.domains)) p.rules) where
  module _ (earlier : List Step) (formula : List (List ℤ)) (has_rules : (c : List ℤ) → Contains (clauses_of p) c → Contains formula c) (has_earlier : (m : ℕ) (t : Step) → step_at earlier m ≡ Some t → Contains formula (step_clause t)) where
    -- a constraint is that of a rule
    rule_of : (number : ℕ) (c : Constraint) → slice_get (csp_of p).constraints number ≡ Some c → (rule : rules.Rule) × Contains p.rules rule × (constraint_of (length p.domains) rule ≡ c)
    rule_of number c there = found_before (constraint_of (length p.domains)) p.rules number c there

    rule_there : (rule : rules.Rule) → Contains p.rules rule → Contains formula (rule_clause rule)
    rule_there rule u = has_rules (rule_clause rule) (contains_mapped rule_clause p.rules rule u)

    module _ (pairs : Nogood) (of_problem : (y : Pair) → In y pairs → IsKnownPair (csp_of p) y) (x : ℕ) (inside : x < length p.domains) where
      bits_with : (v : ℤ) → (v ≡ pos 0) ⊎ (v ≡ pos 1) → (k : ℕ) (w : ℤ) → given_with x v pairs k ≡ Some w → (w ≡ pos 0) ⊎ (w ≡ pos 1)
      bits_with v bit k w e = elim (is_given pairs x v k w e) [
        | inl a ↦ subst (λ z. (z ≡ pos 0) ⊎ (z ≡ pos 1)) (sym a.1) bit
        | inr i ↦ (let y = of_problem (pair_of k w) i in let c = count_is p n h in let l : k < length p.domains = y.variable in value_is p n h k w (omega (arith, c, l)) y.value)
      ]

      by_reason : (v : ℤ) (r : Reason) → (v ≡ pos 0) ⊎ (v ≡ pos 1) → IsReason (csp_of p) earlier pairs x v r → Conflicts neg_ℤ formula (map neg_ℤ (clause_of pairs)) ⊎ Forced neg_ℤ formula (map neg_ℤ (clause_of pairs)) (literal_against x v)
      by_reason v (Rule number) bit (c, there, violated) =
          let found = rule_of number c there in
          excludes formula pairs x v (rule_clause found.0) (rule_there found.0 found.1)
          (rule_against (length p.domains) (given_with x v pairs) (bits_with v bit) found.0 (All-contains IsClauseRule p.rules found.0 clausal found.1) (All-contains (IsRuleOf (length p.domains)) p.rules found.0 known_rules found.1) (subst (λ z. is_violated (given_with x v pairs) z ≡ true) (sym found.2) violated))
      by_reason v (Earlier number) bit (t, there, agreeing) =
          excludes formula pairs x v (step_clause t) (has_earlier number t there)
          (λ y m. (let u = contains_map (λ (z : Pair). literal_against z.var z.value) t.nogood y m in
          (u.0.var, u.0.value, sym u.2, is_value_some (given_with x v pairs u.0.var) u.0.value (list_all-In (λ (z : Pair). is_value (given_with x v pairs z.var) z.value) u.0 t.nogood agreeing (in_of t.nogood u.0 u.1)))))

      by_reasons : (rs : List Reason) → AllZip (IsReason (csp_of p) earlier pairs x) binary rs → Conflicts neg_ℤ formula (map neg_ℤ (clause_of pairs))
      by_reasons [] z = absurd z
      by_reasons (r ∷ []) z = absurd z.1
      by_reasons (r ∷ s ∷ rs) z = both formula pairs x (by_reason (pos 0) r (inl refl) z.0) (by_reason (pos 1) s (inr refl) z.1.0)

      by_domain : (rs : List Reason) → AllZip (IsReason (csp_of p) earlier pairs x) (domain (csp_of p) x) rs → Conflicts neg_ℤ formula (map neg_ℤ (clause_of pairs))
      by_domain rs z = let c = count_is p n h in by_reasons rs (subst (λ d. AllZip (IsReason (csp_of p) earlier pairs x) d rs) (domain_is p n h x (omega (arith, c, inside))) z)

    -- a false rule without variables is the empty clause
    by_empty : (negations : List ℤ) (number : ℕ) → IsFalseAlone (csp_of p) number → Conflicts neg_ℤ formula negations
    by_empty negations number a =
        let found = rule_of number a.constraint a.there in
        let none : scope_of (length p.domains) found.0 ≡ [] = ap (λ c. c.scope) found.2 ∙ a.scope in
        inl (rule_clause found.0, rule_there found.0 found.1, λ y m. absurd (nothing_of found.0 none (literal_of_scope (length p.domains) found.0 (All-contains IsClauseRule p.rules found.0 clausal found.1) (All-contains (IsRuleOf (length p.domains)) p.rules found.0 known_rules found.1) y m)))
      where
        nothing_of : (rule : rules.Rule) {y : ℤ} → scope_of (length p.domains) rule ≡ [] → IsOfScope (length p.domains) rule y → ⊥
        nothing_of rule e (plain_one k u is) = subst (In k) e u
        nothing_of rule e (negated_one k u is) = subst (In k) e u

    -- the clause of a right step has the property
    step_good : (s : Step) → IsRight (csp_of p) earlier s → HasProperty neg_ℤ formula (step_clause s)
    step_good s r = of s.variable r
      where
        of : (o : Option ℕ) → MatchOption o (IsRightNowhere (csp_of p) s) (λ x. IsRightAt (csp_of p) earlier x s) → HasProperty neg_ℤ formula (step_clause s)
        of None k = by_empty (map neg_ℤ (step_clause s)) k.number k.alone
        of (Some x) k = by_domain s.nogood k.pairs x k.variable s.reasons k.reasons

  -- ---- the whole proof

  module _ (steps : List Step) (right : IsDerivation (csp_of p) steps) where
    abbrev proof : List (List ℤ)
    proof = map step_clause steps

    earlier_there : (k m : ℕ) (t : Step) → step_at (take k steps) m ≡ Some t → Contains (known_before (clauses_of p) (map step_clause steps) k) (step_clause t)
    earlier_there k zero t e = absurd cc
    earlier_there k (suc m) t e =
        Contains-append_right (clauses_of p) (take k (map step_clause steps)) (step_clause t)
        (subst (λ l. Contains l (step_clause t)) (sym (take-map step_clause k steps)) (contains_mapped step_clause (take k steps) t (Contains-In (take k steps) t (get-In (take k steps) m t e))))

    good_at : (k : ℕ) (s : Step) → slice_get steps k ≡ Some s → IsGood neg_ℤ (clauses_of p) (map step_clause steps) k
    good_at k s e =
        let l = slice_get_within steps k s e in
        let is : get_or (map step_clause steps) k [] ≡ step_clause s = get_or-map step_clause steps k s [] l ∙ ap step_clause (get_or_from_slice_get steps k s s e) in
        subst (HasProperty neg_ℤ (known_before (clauses_of p) (map step_clause steps) k)) (sym is)
        (step_good (take k steps) (known_before (clauses_of p) (map step_clause steps) k) (λ c u. Contains-append_left (clauses_of p) (take k (map step_clause steps)) c u) (earlier_there k) s (right k s e))

    pub all_good : (k : ℕ) → k < length (map step_clause steps) → IsGood neg_ℤ (clauses_of p) (map step_clause steps) k
    all_good k l = let c = length-map steps step_clause in let r = some_at steps k (omega (arith, c, l)) in good_at k r.0 r.1

    ends_empty : derivations.EndsEmpty steps → propagation.EndsEmpty (map step_clause steps)
    ends_empty e =
        let r = some_and (λ (s : Step). s.nogood ≡ []) (slice_get steps (length steps - 1)) e in
        let l = slice_get_within steps (length steps - 1) r.0 r.1 in
        let c = length-map steps step_clause in
        let is : get_or (map step_clause steps) (length steps - 1) [] ≡ step_clause r.0 = get_or-map step_clause steps (length steps - 1) r.0 [] l ∙ ap step_clause (get_or_from_slice_get steps (length steps - 1) r.0 r.0 r.1) in
        (omega (arith, c, l), ap (λ k. get_or (map step_clause steps) (k - 1) []) c ∙ is ∙ ap clause_of r.2)

  -- the clauses of a refutation are accepted
  pub accepted : (steps : List Step) → IsRefutation (csp_of p) steps → IsAccepted neg_ℤ (clauses_of p) (map step_clause steps)
  accepted steps r = (all_good steps r.right, ends_empty steps r.right r.ends)
