-- The clauses of an exported formula and proof are those of formulas: their literals are of its atoms, and of one sign.
use Rattle.std.proofs.Common.{◌≡◌, ℕ, zero, suc, ◌+◌, ◌*◌, ◌^◌, ◌<◌, ◌≤◌, List, [], ◌∷◌, length, map, Option, Some, None, slice_get, take, refl, sym, ap, subst, inl, inr, arith, append_assoc, length-append, MatchOption}
use Rattle.std.specs.Prelude.{ℤ, Contains, flat_map, codes}
use Rattle.std.specs.List.{AllByRecursion}
use Rattle.std.proofs.lemmas.List.{length-map}
use Rattle.std.proofs.lemmas.List.Sums.{length-filter, count_by-le-length}
use Rattle.dcsp_defs.specs.declared.nogood.Pair.{Pair}
use Rattle.dcsp_defs.specs.Pairs.{var_at}
use Rattle.dcsp_defs.specs.Pairs as pairs
use Rattle.dcsp_defs.specs.Words.{In, below}
use Rattle.dcsp_defs.specs.Csp.{IsCsp, Constraint, Nogood, filled, domain}
use Rattle.dcsp_defs.specs.declared.Step.{Step}
use Rattle.dcsp_defs.specs.Derivation.{IsRight, IsRightAt, IsRightNowhere, IsKnownPair, IsDerivation}
use Rattle.dcsp_rule.specs.Rules.{mentions}
use Rattle.dcsp_rule.specs.Problems.{Contents, csp_of, value_count, rule_at}
use Rattle.rup_check.specs.Literals.{IsLiteral}
use Rattle.rup_check.specs.ProofText.{literal_text, clause_line, proof_text, IsClause}
use Rattle.rup_check.proofs.PropagationLaws.{contains_head, contains_cons}
use Rattle.abt_input.specs.Inputs.{HasClauses}
use Rattle.line_cnf.proofs.CnfTexts.{at_least, literal_short}
use Rattle.line_export.specs.Atoms.{has_value, lacks_value}
use Rattle.line_export.specs.Clauses.{Clause, value_clause, nogood_clause, formula, proof}
use Rattle.line_export.proofs.Numbering.{atom_below, all_values, before_few}
use Rattle.line_export.proofs.ReadBack.{IsOf, IsPlain, IsNegated, IsFine}
use Rattle.line_export.proofs.Accepting.{constraint_is}
use Rattle.line_export.proofs.Saying.{IsExcluding, constraint_ok, clause_is}

-- what holds of each item
all_of : {X : Type 0} (P : X → Type 0) (xs : List X) → ((x : X) → Contains xs x → P x) → AllByRecursion P xs
all_of P [] h = tt
all_of P (x ∷ xs) h = (h x (contains_head x xs), all_of P xs (λ y m. h y (contains_cons x xs y m)))

all_mapped : {X Y : Type 0} (P : Y → Type 0) (f : X → Y) (xs : List X) → ((x : X) → In x xs → P (f x)) → AllByRecursion P (map f xs)
all_mapped P f [] h = tt
all_mapped P f (x ∷ xs) h = (h x (inl refl), all_mapped P f xs (λ y i. h y (inr i)))

below_length : (n : ℕ) → length (below n) ≡ n
below_length zero = refl
below_length (suc n) = let a = length-append (below n) (n ∷ []) in let ih = below_length n in omega (arith, a, ih)

module _ (p : Contents) where
  -- the literals of a value of a domain
  has_of : (k : ℕ) (v : ℤ) → k < length p.domains → In v (domain (csp_of p) k) → IsOf (value_count p) (has_value (csp_of p) k v)
  has_of k v l i = let a = atom_below (csp_of p) k v l i in let all = all_values p in record { some = omega arith; bounded = omega (arith, a, all) }

  lacks_of : (k : ℕ) (v : ℤ) → k < length p.domains → In v (domain (csp_of p) k) → IsOf (value_count p) (lacks_value (csp_of p) k v)
  lacks_of k v l i = let a = atom_below (csp_of p) k v l i in let all = all_values p in record { some = omega arith; bounded = omega (arith, a, all) }

  value_fine : (k : ℕ) → k < length p.domains → value_count p ≤ 4096 → IsFine (value_count p) (value_clause (csp_of p) k)
  value_fine k l few =
      let d = domain (csp_of p) k in
      let n = length-map d (has_value (csp_of p) k) in
      let b = before_few p k l in
      record {
        literals = all_mapped (IsOf (value_count p)) (has_value (csp_of p) k) d (λ v i. has_of k v l i);
        sign = inl (all_mapped IsPlain (has_value (csp_of p) k) d (λ v i. omega arith));
        short = omega (arith, n, b, few);
      }

  scope_few : (number : ℕ) (c : Constraint) → slice_get (csp_of p).constraints number ≡ Some c → length c.scope ≤ length p.domains
  scope_few number c there =
      let is = ap (λ (d : Constraint). length d.scope) (constraint_is p number c there) in
      let a = length-filter (mentions (rule_at p number)) (below (length p.domains)) in
      let b = count_by-le-length (mentions (rule_at p number)) (below (length p.domains)) in
      let n = below_length (length p.domains) in
      omega (arith, is, a, b, n)

  excluding_fine : IsCsp (csp_of p) → length p.domains ≤ 4096 → (c : Clause) → IsExcluding (csp_of p) c → IsFine (value_count p) c
  excluding_fine ok many c e = subst (IsFine (value_count p)) (sym e.is) record {
    literals = all_mapped (IsOf (value_count p)) (λ k. lacks_value (csp_of p) k (filled e.known k)) e.constraint.scope (λ k i. lacks_of k (filled e.known k) ((constraint_ok (csp_of p) ok c e).inside k i) (e.are k i));
    sign = inr (all_mapped IsNegated (λ k. lacks_value (csp_of p) k (filled e.known k)) e.constraint.scope (λ k i. tt));
    short = (let n = length-map e.constraint.scope (λ k. lacks_value (csp_of p) k (filled e.known k)) in let f = scope_few e.number e.constraint e.there in omega (arith, n, f, many));
  }

  -- the clauses of a derivation's formula
  pub formula_fine : IsCsp (csp_of p) → length p.domains ≤ 4096 → value_count p ≤ 4096 → (steps : List Step) → IsDerivation (csp_of p) steps → AllByRecursion (IsFine (value_count p)) (formula p steps)
  formula_fine ok many few steps right = all_of (IsFine (value_count p)) (formula p steps) (λ c m. elim (clause_is p steps right c m) [
    | inl v ↦ subst (IsFine (value_count p)) (sym v.2) (value_fine v.0 v.1 few)
    | inr e ↦ excluding_fine ok many c e
  ])

  -- ---- the proof

  -- what a right step's nogood is
  record IsNogood (nogood : Nogood) : Type 0 where
    rising : pairs.IsRising nogood
    known : (y : Pair) → In y nogood → IsKnownPair (csp_of p) y

  step_nogood : (earlier : List Step) (s : Step) → IsRight (csp_of p) earlier s → IsNogood s.nogood
  step_nogood earlier s r = of s.variable r
    where
      of : (o : Option ℕ) → MatchOption o (IsRightNowhere (csp_of p) s) (λ x. IsRightAt (csp_of p) earlier x s) → IsNogood s.nogood
      of None k = subst IsNogood (sym k.nogood) record { rising = λ k l. absurd (omega (arith, l)); known = λ y i. absurd i }
      of (Some x) k = record { rising = k.rising; known = k.pairs }

  module _ (few : value_count p ≤ 4096) (many : length p.domains ≤ 4096) where
    literal_is : (z : ℤ) → IsOf (value_count p) z → IsLiteral z
    literal_is z h = let b = h.bounded in record { positive = h.some; bounded = omega (arith, b, few) }

    nogood_literals : (nogood : Nogood) → ((y : Pair) → In y nogood → IsKnownPair (csp_of p) y) → IsClause (nogood_clause (csp_of p) nogood)
    nogood_literals nogood known = all_mapped IsLiteral (λ (y : Pair). lacks_value (csp_of p) y.var y.value) nogood (λ y i. (let k = known y i in literal_is (lacks_value (csp_of p) y.var y.value) (lacks_of y.var y.value k.variable k.value)))

    var_below : (nogood : Nogood) → ((y : Pair) → In y nogood → IsKnownPair (csp_of p) y) → (k : ℕ) → k < length nogood → var_at nogood k < length p.domains
    var_below [] known k l = absurd (omega (arith, l))
    var_below (y ∷ ys) known zero l = (known y (inl refl)).variable
    var_below (y ∷ ys) known (suc k) l = var_below ys (λ z i. known z (inr i)) k (omega (arith, l))

    few_pairs : (nogood : Nogood) → IsNogood nogood → length nogood ≤ 4096
    few_pairs [] h = omega arith
    few_pairs (y ∷ ys) h =
        let k = length ys in
        let low = at_least (y ∷ ys) h.rising k (omega arith) in
        let high = var_below (y ∷ ys) h.known k (omega arith) in
        omega (arith, low, high, many)

    clause_short : (zs : List ℤ) → IsClause zs → length (clause_line zs) ≤ 6 * length zs + 2
    clause_short [] h = omega arith
    clause_short (z ∷ zs) h =
        let first = literal_short z h.0 in
        let ih = clause_short zs h.1 in
        let a = ap length (append_assoc (literal_text z) (flat_map literal_text zs) (codes "0\n")) in
        let b = length-append (literal_text z) (clause_line zs) in
        omega (arith, first, ih, a, b)

    proof_short : (steps : List Step) → ((k : ℕ) (s : Step) → slice_get steps k ≡ Some s → IsNogood s.nogood) → length (proof_text (proof p steps)) ≤ 24578 * length steps
    proof_short [] h = omega arith
    proof_short (s ∷ steps) h =
        let n = h 0 s refl in
        let c = nogood_clause (csp_of p) s.nogood in
        let one = clause_short c (nogood_literals s.nogood n.known) in
        let size = length-map s.nogood (λ (y : Pair). lacks_value (csp_of p) y.var y.value) in
        let l = few_pairs s.nogood n in
        let ih = proof_short steps (λ k t e. h (suc k) t e) in
        let a = length-append (clause_line c) (proof_text (proof p steps)) in
        omega (arith, one, size, l, ih, a)

    proof_literals : (steps : List Step) → ((k : ℕ) (s : Step) → slice_get steps k ≡ Some s → IsNogood s.nogood) → AllByRecursion IsClause (proof p steps)
    proof_literals [] h = tt
    proof_literals (s ∷ steps) h = (nogood_literals s.nogood (h 0 s refl).known, proof_literals steps (λ k t e. h (suc k) t e))

    -- fewer than 2^32 clauses of right steps are read as they were written
    pub proof_read : (steps : List Step) → IsDerivation (csp_of p) steps → length steps < 2 ^ 32 → HasClauses (proof_text (proof p steps)) (proof p steps)
    proof_read steps right small =
        let are = λ (k : ℕ) (s : Step) (e : slice_get steps k ≡ Some s). step_nogood (take k steps) s (right k s e) in
        let s = proof_short steps are in
        let c = length-map steps (λ (t : Step). nogood_clause (csp_of p) t.nogood) in
        record {
          short = omega (arith, s, small);
          reads = record { clauses = proof_literals steps are; count = omega (arith, c, small); same = refl };
        }
