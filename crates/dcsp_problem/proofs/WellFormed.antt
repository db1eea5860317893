-- Every problem denotes a well-formed abstract problem.
use Rattle.std.proofs.Common.{◌≡◌, ℕ, zero, suc, ◌<◌, List, [], ◌∷◌, map, length, get_or, refl, sym, arith, inl, inr, subst}
use Rattle.std.specs.Prelude.{ℤ, ◌<ℤ◌, Some, slice_get}
use Rattle.std.proofs.lemmas.List.Elements.{All-contains}
use Rattle.dcsp_domain.specs.Sets.{IsDomain, IsRising}
use Rattle.dcsp_defs.specs.Words.{In, IsRisingIntegers}
use Rattle.dcsp_defs.specs.Csp.{IsConstraint, IsCsp}
use Rattle.dcsp_rule.specs.declared.rule.Rule.{Rule}
use Rattle.dcsp_rule.specs.Rules.{mentions, IsRuleOf, no_rule}
use Rattle.dcsp_rule.specs.Problems.{Contents, constraint_of, csp_of, constraint_at}
use Rattle.dcsp_problem.specs.WellFormed.{IsProblem}
use Rattle.dcsp_problem.proofs.RisingNumbers.{Contains-In, In-filter_below, rising-filter_below}
use Rattle.dcsp_problem.proofs.Scopes.{In-scope}
use Rattle.dcsp_problem.proofs.Local.{truth_local}

-- integers that rise by place rise
pub rising_integers : (xs : List ℤ) → IsRising xs → IsRisingIntegers xs
rising_integers [] up = tt
rising_integers (x ∷ xs) up = (
  λ y i. let c = Contains-In xs y i in subst (λ (z : ℤ). x <ℤ z) c.2 (up 0 (suc c.0) y (omega arith) (omega (arith, c.1))),
  rising_integers xs (λ i j d l h. up (suc i) (suc j) d (omega arith) (omega arith)),
)

In-from_map : {X Y : Type 0} → (f : X → Y) (y : Y) (xs : List X) → In y (map f xs) → (x : X) × In x xs × (f x ≡ y)
In-from_map f y [] i = absurd i
In-from_map f y (x ∷ xs) (inl e) = (x, inl refl, sym e)
In-from_map f y (x ∷ xs) (inr i) = let r = In-from_map f y xs i in (r.0, inr r.1, r.2)

-- a rule denotes a well-formed constraint
pub is_constraint : (p : Contents) (rule : Rule) → IsRuleOf (length p.domains) rule → IsConstraint (csp_of p) (constraint_of (length p.domains) rule)
is_constraint p rule r = record {
  rising = rising-filter_below (mentions rule) (length p.domains);
  inside = λ v i. (In-filter_below (mentions rule) (length p.domains) v i).0;
  local = λ f g same. truth_local rule f g (λ v i. same v (In-scope (length p.domains) rule r v i));
}

pub is_csp : (p : Contents) → IsProblem p → IsCsp (csp_of p)
is_csp p h = record {
  domains = λ d i. rising_integers d (All-contains IsDomain p.domains d h.domains (Contains-In p.domains d i)).rising;
  constraints = λ c i.
      let from = In-from_map (constraint_of (length p.domains)) c p.rules i in
      let rule = All-contains (IsRuleOf (length p.domains)) p.rules from.0 h.rules (Contains-In p.rules from.0 from.1) in
      subst (λ z. IsConstraint (csp_of p) z) from.2 (is_constraint p from.0 rule);
}

constraint_there : (n : ℕ) (rules : List Rule) (k : ℕ) → k < length rules → slice_get (map (constraint_of n) rules) k ≡ Some (constraint_of n (get_or rules k no_rule))
constraint_there n [] k l = absurd (omega arith)
constraint_there n (r ∷ rs) zero l = refl
constraint_there n (r ∷ rs) (suc k) l = constraint_there n rs k (omega arith)

-- the constraint with a rule's number is the one that the rule denotes
pub constraint_is : (p : Contents) (k : ℕ) → k < length p.rules → slice_get (csp_of p).constraints k ≡ Some (constraint_at p k)
constraint_is p k l = constraint_there (length p.domains) p.rules k l
