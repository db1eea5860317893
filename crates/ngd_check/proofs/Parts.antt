-- The parts of a right step.
use Rattle.std.proofs.Common.{◌≡◌, ℕ, zero, suc, ◌<◌, Bool, true, false, not, ◌&&◌, ◌↔◌, List, [], ◌∷◌, length, slice_get, Some, None, ℤ, pos, is_some, inl, inr, refl, sym, ap, ◌∙◌, subst, arith}
use Rattle.std.specs.Ordering.{int_eq}
use Rattle.std.proofs.lemmas.Bool.Decides.{Decides-int_eq, eqb_tells}
use Rattle.std.specs.List.{list_all}
use Rattle.std.proofs.lemmas.List.{length-map}
use Rattle.dcsp_defs.specs.declared.nogood.Pair.{Pair}
use Rattle.dcsp_defs.specs.Pairs.{value_at}
use Rattle.dcsp_domain.specs.Sets.{has}
use Rattle.dcsp_defs.specs.Words.{In}
use Rattle.dcsp_defs.specs.Csp.{Csp, Constraint, PartialAssignment, is_violated, with_value, domain}
use Rattle.dcsp_defs.specs.Derivation.{IsKnownPair, IsFalseAlone, IsFalseRule}
use Rattle.dcsp_defs.proofs.Lists.{In-list_any, list_any-In}
use Rattle.dcsp_rule.specs.Problems.{Contents, csp_of, constraint_of, AreInDomains}

pub within : {X : Type 0} (xs : List X) (n : ℕ) (x : X) → slice_get xs n ≡ Some x → n < length xs
within [] n x h = absurd cc
within (y ∷ ys) zero x h = omega arith
within (y ∷ ys) (suc n) x h = let r = within ys n x h in omega arith

-- a problem denotes a constraint for each rule
pub as_many : (p : Contents) → length (csp_of p).constraints ≡ length p.rules
as_many p = length-map p.rules (constraint_of (length p.domains))

pub has-In : (values : List ℤ) (v : ℤ) → has values v ≡ true → In v values
has-In values v h = let r = In-list_any (int_eq v) values h in let e : v ≡ r.0 = (Decides-int_eq v r.0).0 r.2 in subst (λ (w : ℤ). In w values) (sym e) r.1

pub In-has : (values : List ℤ) (v : ℤ) → In v values → has values v ≡ true
In-has values v u = list_any-In (int_eq v) v values u ((Decides-int_eq v v).1 refl)

-- with nothing known, a constraint is violated if it has no variables and is false
pub violated_alone : (p : Csp) (n : ℕ) (c : Constraint) → slice_get p.constraints n ≡ Some c → is_violated (λ k. None) c ≡ true → IsFalseAlone p n
violated_alone p n c there h = by_scope c.scope refl h
  where
    by_scope : (scope : List ℕ) → c.scope ≡ scope → (list_all (λ k. is_some {T = ℤ} None) scope && not (c.test (λ k. pos 0))) ≡ true → IsFalseAlone p n
    by_scope [] e g = record { constraint = c; there = there; scope = e; violated = out (c.test (λ k. pos 0)) g }
      where
        out : (b : Bool) → not b ≡ true → b ≡ false
        out true f = cc
        out false f = refl
    by_scope (x ∷ xs) e g = absurd (let z : false ≡ true = g in cc)

pub alone_violated : (p : Csp) (n : ℕ) (c : Constraint) → slice_get p.constraints n ≡ Some c → IsFalseAlone p n → is_violated (λ k. None) c ≡ true
alone_violated p n c there h =
    let same : h.constraint ≡ c = cc_some h.constraint c (sym h.there ∙ there) in
    subst (λ (d : Constraint). is_violated (λ k. None) d ≡ true) same (ap (λ (s : List ℕ). list_all (λ k. is_some {T = ℤ} None) s && not (h.constraint.test (λ k. pos 0))) h.scope ∙ ap not h.violated)
  where
    cc_some : (a b : Constraint) → Some a ≡ Some b → a ≡ b
    cc_some a b e = cc

-- the values of known pairs are in their domains
pub pairs_in_domains : (p : Csp) (pairs : List Pair) → ((y : Pair) → In y pairs → IsKnownPair p y) → AreInDomains p (value_at pairs)
pairs_in_domains p [] known k w l f = absurd cc
pairs_in_domains p (y ∷ ys) known k w l f = elim (eqb_tells k y.var) [
  | inl t ↦ let s : Some y.value ≡ Some w = rw t.0 at f in let same : y.value ≡ w = cc in subst (λ (n : ℕ). In w (domain p n)) (sym t.1) (subst (λ (u : ℤ). In u (domain p y.var)) same (known y (inl refl)).value)
  | inr t ↦ pairs_in_domains p ys (λ z u. known z (inr u)) k w l (rw t.0 at f)
]

-- and so are these with one more that is in its domain
pub more_in_domains : (p : Csp) (known : PartialAssignment) (x : ℕ) (v : ℤ) → AreInDomains p known → In v (domain p x) → AreInDomains p (with_value x v known)
more_in_domains p known x v h here k w l e = elim (eqb_tells k x) [
  | inl t ↦ let s : Some v ≡ Some w = rw t.0 at e in let same : v ≡ w = cc in subst (λ (n : ℕ). In w (domain p n)) (sym t.1) (subst (λ (u : ℤ). In u (domain p x)) same here)
  | inr t ↦ h k w l (rw t.0 at e)
]

-- a constraint of the problem is a reason exactly if it is violated
pub false_rule : (p : Csp) (known : PartialAssignment) (n : ℕ) (c : Constraint) (b : Bool) → slice_get p.constraints n ≡ Some c → b ≡ is_violated known c → (b ≡ true) ↔ IsFalseRule p known n
false_rule p known n c b there e = (
  λ t. (c, there, sym e ∙ t),
  λ h.
      let both : Some h.0 ≡ Some c = sym h.1 ∙ there in
      let same : h.0 ≡ c = cc in
      e ∙ subst (λ (d : Constraint). is_violated known d ≡ true) same h.2,
)
