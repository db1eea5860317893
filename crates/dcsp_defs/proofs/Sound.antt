-- No solution extends the nogood of a right derivation's step.
use Rattle.std.proofs.Common.{◌≡◌, ℕ, zero, suc, ◌-◌, ◌<◌, true, false, not, inl, inr, List, [], ◌∷◌, slice_get, take, length, Option, Some, None, ℤ, pos, is_some, unwrap_or, refl, sym, ap, ◌∙◌, subst, arith, MatchOption}
use Rattle.std.specs.Prelude.{IsSomeAnd}
use Rattle.std.proofs.lemmas.Bool.Decides.{eqb_tells, Decides-int_eq}
use Rattle.std.specs.List.{list_all, AllZip}
use Rattle.dcsp_defs.specs.declared.nogood.Pair.{Pair}
use Rattle.dcsp_defs.specs.Pairs.{value_at}
use Rattle.dcsp_defs.specs.declared.Reason.{Reason}
use Rattle.dcsp_defs.specs.declared.Reason.TheVariants.{Rule, Earlier}
use Rattle.dcsp_defs.specs.declared.Step.{Step}
use Rattle.dcsp_defs.specs.Words.{In, is_value}
use Rattle.dcsp_defs.specs.Csp.{Csp, Nogood, Assignment, PartialAssignment, IsCsp, IsSolution, Extends, filled, given_with, domain}
use Rattle.dcsp_defs.specs.Derivation.{step_at, IsReason, IsRightAt, IsRightNowhere, IsRight, IsDerivation, NogoodsExclude, RefutationsRefute}
use Rattle.dcsp_defs.proofs.Lists.{list_all-In, and_left, and_right, get-In, get-take}

-- no solution extends the nogood
abbrev Excludes : Csp → Nogood → Type 0
Excludes p pairs = (values : Assignment) → IsSolution p values → Extends values pairs → ⊥

module _ (values : Assignment) where
  -- what the pairs give, the assignment has
  given_has : (pairs : Nogood) → Extends values pairs → (k : ℕ) (v : ℤ) → value_at pairs k ≡ Some v → values k ≡ v
  given_has [] h k v e = cc
  given_has (y ∷ ys) h k v e = elim (eqb_tells k y.var) [
    | inl t ↦ let q : Some y.value ≡ Some v = rw t.0 at e in let w : y.value ≡ v = cc in ap values t.1 ∙ h y (inl refl) ∙ w
    | inr t ↦ given_has ys (λ x u. h x (inr u)) k v (rw t.0 at e)
  ]

  with_has : (pairs : Nogood) → Extends values pairs → (x k : ℕ) (v : ℤ) → given_with x (values x) pairs k ≡ Some v → values k ≡ v
  with_has pairs h x k v e = elim (eqb_tells k x) [
    | inl t ↦ let q : Some (values x) ≡ Some v = rw t.0 at e in let w : values x ≡ v = cc in ap values t.1 ∙ w
    | inr t ↦ given_has pairs h k v (rw t.0 at e)
  ]

is_value-is : (o : Option ℤ) (v : ℤ) → is_value o v ≡ true → o ≡ Some v
is_value-is None v h = cc
is_value-is (Some w) v h = ap Some ((Decides-int_eq w v).0 h)

some-is : (o : Option ℤ) → is_some o ≡ true → o ≡ Some (unwrap_or o (pos 0))
some-is None h = cc
some-is (Some v) h = refl

module _ (p : Csp) (ok : IsCsp p) (earlier : List Step) (before : (n : ℕ) (s : Step) → step_at earlier n ≡ Some s → Excludes p s.nogood) where
  -- no solution that extends the pairs has the value that the reason is for
  reason_excludes : (pairs : Nogood) (x : ℕ) (r : Reason) (values : Assignment) → IsReason p earlier pairs x (values x) r → IsSolution p values → Extends values pairs → ⊥
  reason_excludes pairs x (Rule number) values h solution e =
      let c = h.0 in
      let here = get-In p.constraints number c h.1 in
      let known : PartialAssignment = given_with x (values x) pairs in
      let same : c.test (filled known) ≡ c.test values = (ok.constraints c here).local (filled known) values
      (λ k u. sym (with_has values pairs e x k (filled known k) (some-is (known k) (list_all-In (λ k. is_some (known k)) k c.scope (and_left (list_all (λ k. is_some (known k)) c.scope) (not (c.test (filled known))) h.2) u)))) in
      let t : c.test (filled known) ≡ true = same ∙ solution.constraints c here in
      let f : not (c.test (filled known)) ≡ true = and_right (list_all (λ k. is_some (known k)) c.scope) (not (c.test (filled known))) h.2 in
      let g : not (c.test (filled known)) ≡ false = ap not t in cc
  reason_excludes pairs x (Earlier number) values h solution e =
      before number h.0 h.1 values solution
      (λ y u. with_has values pairs e x y.var y.value (is_value-is _ y.value (list_all-In (λ (y : Pair). is_value (given_with x (values x) pairs y.var) y.value) y h.0.nogood h.2 u)))

  reasons_exclude : (pairs : Nogood) (x : ℕ) (vs : List ℤ) (rs : List Reason) (values : Assignment) → AllZip (IsReason p earlier pairs x) vs rs → In (values x) vs → IsSolution p values → Extends values pairs → ⊥
  reasons_exclude pairs x [] rs values h i solution e = absurd i
  reasons_exclude pairs x (v ∷ vs) [] values h i solution e = absurd h
  reasons_exclude pairs x (v ∷ vs) (r ∷ rs) values h (inl same) solution e = reason_excludes pairs x r values (subst (λ (w : ℤ). IsReason p earlier pairs x w r) (sym same) h.0) solution e
  reasons_exclude pairs x (v ∷ vs) (r ∷ rs) values h (inr i) solution e = reasons_exclude pairs x vs rs values h.1 i solution e

  step_excludes : (s : Step) → IsRight p earlier s → Excludes p s.nogood
  step_excludes s h values solution e = at s.variable h
    where
      at : (o : Option ℕ) → MatchOption o (IsRightNowhere p s) (λ x. IsRightAt p earlier x s) → ⊥
      at (Some x) r = reasons_exclude s.nogood x (domain p x) s.reasons values r.reasons (solution.domains x r.variable) solution e
      at None r =
          let f = r.alone in
          let c = f.constraint in
          let here = get-In p.constraints r.number c f.there in
          let same : c.test (λ k. pos 0) ≡ c.test values = (ok.constraints c here).local (λ k. pos 0) values (λ k u. absurd (subst (In k) f.scope u)) in
          let t : c.test values ≡ true = solution.constraints c here in
          let g : true ≡ false = sym t ∙ (sym same ∙ f.violated) in cc

module _ (p : Csp) (ok : IsCsp p) (steps : List Step) (right : IsDerivation p steps) where
  -- the steps before place k, where those below n exclude
  earlier : (n k : ℕ) → k < suc n → ((j : ℕ) (t : Step) → j < n → slice_get steps j ≡ Some t → Excludes p t.nogood) → (m : ℕ) (t : Step) → step_at (take k steps) m ≡ Some t → Excludes p t.nogood
  earlier n k h ih zero t f = cc
  earlier n k h ih (suc m) t f = let r = get-take steps k m t f in ih m t (omega (arith, r.0)) r.1

  -- the steps at places below n
  all_exclude : (n k : ℕ) (s : Step) → k < n → slice_get steps k ≡ Some s → Excludes p s.nogood
  all_exclude zero k s h e = absurd (omega arith)
  all_exclude (suc n) k s h e = step_excludes p ok (take k steps) (earlier n k h (λ j t. all_exclude n j t)) s (right k s e)

pub nogoods_exclude : (p : Csp) → NogoodsExclude p
nogoods_exclude p ok steps right zero s e = cc
nogoods_exclude p ok steps right (suc k) s e = all_exclude p ok steps right (suc k) k s (omega arith) e

some_and : {X : Type 0} → (P : X → Type 0) (o : Option X) → IsSomeAnd o P → (x : X) × (o ≡ Some x) × P x
some_and P None h = absurd h
some_and P (Some x) h = (x, refl, h)

pub refutations_refute : (p : Csp) → RefutationsRefute p
refutations_refute p ok steps h values solution =
    let last = some_and (λ (s : Step). s.nogood ≡ []) (slice_get steps (length steps - 1)) h.ends in
    nogoods_exclude p ok steps h.right (suc (length steps - 1)) last.0 last.1 values solution (λ y u. absurd (subst (In y) last.2 u))
