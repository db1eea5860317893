-- Rules under the values that a look-up gives.
use Rattle.std.proofs.Common.{◌≡◌, ℕ, ◌<◌, Bool, true, false, List, [], ◌∷◌, refl, sym, ap, subst, ◌∙◌, inl, inr, arith, length}
use Rattle.std.specs.Prelude.{ℤ, pos, Option, Some, None, is_some, unwrap_or, not, ◌&&◌, if◌then◌else◌, slice_get, slice_index_or}
use Rattle.std.proofs.lemmas.Option.{get_or_from_slice_get, slice_get-get_or}
use Rattle.std.specs.List.{list_all}
use Rattle.std.specs.Ordering.{int_eq}
use Rattle.std.proofs.lemmas.Bool.Decides.{Decides-int_eq}
use Rattle.dcsp_domain.specs.Sets.{has}
use Rattle.dcsp_defs.specs.Words.{In}
use Rattle.dcsp_defs.specs.Csp.{Csp, Constraint, PartialAssignment, IsConstraint, domain, count, filled, is_violated}
use Rattle.dcsp_defs.proofs.Lists.{list_any-In, In-list_any, In-list_all}
use Rattle.dcsp_rule.specs.Problems.{value_in, within_domains, AreInDomains}

-- a value of the domain is kept
value_kept : (values : List ℤ) (v : ℤ) → In v values → value_in values (Some v) ≡ Some v
value_kept values v i = let there : has values v ≡ true = list_any-In (int_eq v) v values i ((Decides-int_eq v v).1 refl) in rw there refl

-- where all values are in the domains, none is dropped
pub within_same : (p : Csp) (known : PartialAssignment) → AreInDomains p known → (v : ℕ) → v < count p → within_domains p known v ≡ known v
within_same p known all v l = by_value (known v) refl where
  by_value : (o : Option ℤ) → known v ≡ o → value_in (domain p v) o ≡ o
  by_value None e = refl
  by_value (Some x) e = value_kept (domain p v) x (all v x l e)

list_all_same : (q r : ℕ → Bool) (xs : List ℕ) → ((v : ℕ) → In v xs → q v ≡ r v) → list_all q xs ≡ list_all r xs
list_all_same q r [] h = refl
list_all_same q r (x ∷ xs) h = ap (λ z. z && list_all q xs) (h x (inl refl)) ∙ ap (λ z. r x && z) (list_all_same q r xs (λ v i. h v (inr i)))

-- then the rule is violated within the domains exactly where it is violated
pub violated_same : (p : Csp) (known : PartialAssignment) (c : Constraint) → IsConstraint p c → AreInDomains p known → is_violated (within_domains p known) c ≡ is_violated known c
violated_same p known c ok all =
    let same : (v : ℕ) → In v c.scope → within_domains p known v ≡ known v = λ v i. within_same p known all v (ok.inside v i) in
    let tests : c.test (filled (within_domains p known)) ≡ c.test (filled known) = ok.local _ _ (λ v i. ap (λ z. unwrap_or z (pos 0)) (same v i)) in
    ap (λ z. z && not (c.test (filled (within_domains p known)))) (list_all_same _ _ c.scope (λ v i. ap (λ z. is_some z) (same v i)))
    ∙ ap (λ z. list_all (λ v. is_some (known v)) c.scope && not z) tests

-- where all values are in the domains, a scope that is known is known within them
pub scope_within : (p : Csp) (known : PartialAssignment) (c : Constraint) → IsConstraint p c → AreInDomains p known → list_all (λ v. is_some (known v)) c.scope ≡ true → list_all (λ v. is_some (within_domains p known v)) c.scope ≡ true
scope_within p known c ok all knows = list_all_same _ _ c.scope (λ v i. ap (λ z. is_some z) (within_same p known all v (ok.inside v i))) ∙ knows

-- what passes a domain's test is in it
in_domain : (values : List ℤ) (v : ℤ) → has values v ≡ true → In v values
in_domain values v h =
    let found = In-list_any (int_eq v) values h in
    subst (λ z. In z values) (sym ((Decides-int_eq v found.0).0 found.2)) found.1

-- a value that is kept is in the domain
kept_in : (values : List ℤ) (o : Option ℤ) (v : ℤ) → value_in values o ≡ Some v → In v values
kept_in values None v e = absurd (cc)
kept_in values (Some w) v e = by_test (has values w) refl e where
  by_test : (b : Bool) → has values w ≡ b → (if b then Some w else None) ≡ Some v → In v values
  by_test true h e = let same : w ≡ v = cc in subst (λ z. In z values) same (in_domain values w h)
  by_test false h e = absurd (cc)

-- what is kept of the known values is in the domains
pub within_are_in : (p : Csp) (known : PartialAssignment) → AreInDomains p (within_domains p known)
within_are_in p known var v l e = kept_in (domain p var) (known var) v e

-- a list that has a value of its domain for each variable
module _ (p : Csp) (values : List ℤ) (as_many : length values ≡ count p) (in_domains : (v : ℕ) → v < count p → has (domain p v) (slice_index_or values v (pos 0)) ≡ true) where
  pub listed_are_in : AreInDomains p (slice_get values)
  listed_are_in var v l e = subst (λ z. In z (domain p var)) (get_or_from_slice_get values var v (pos 0) e) (in_domain (domain p var) (slice_index_or values var (pos 0)) (in_domains var l))

  -- violates a constraint exactly where its test fails
  pub listed_violates : (c : Constraint) → IsConstraint p c → is_violated (slice_get values) c ≡ not (c.test (filled (slice_get values)))
  listed_violates c ok =
      ap (λ b. b && not (c.test (filled (slice_get values)))) (In-list_all (λ v. is_some (slice_get values v)) c.scope (λ v i.
      let inside = ok.inside v i in
      ap (λ o. is_some o) (slice_get-get_or values v (pos 0) (omega (arith, inside, as_many)))))
