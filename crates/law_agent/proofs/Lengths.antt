-- Lists whose items differ are no longer than what they are drawn from.
use Rattle.dcsp_defs.specs.declared.nogood.Pair.{Pair}
use Rattle.std.proofs.Common.{◌≡◌, ℕ, zero, suc, ◌+◌, ◌≤◌, ◌⊎◌, inl, inr, List, [], ◌∷◌, length, slice_get, Some, ℤ, refl, sym, ap, ◌∙◌, arith}
use Rattle.dcsp_defs.specs.Words.{In, IsRising}
use Rattle.dcsp_defs.specs.Csp.{Csp, Nogood, names, domain}
use Rattle.dcsp_defs.specs.Pairs.{value_at, pair_of}
use Rattle.dcsp_defs.proofs.Lists.{get-In}
use Rattle.abt_defs.specs.Agents.{Agent, Record}
use Rattle.law_agent.proofs.Nogoods.{value_at-In}
use Rattle.law_agent.proofs.Facts.{Sound, Distinct}
use Rattle.law_agent.specs.Stores.{IsBoundedStore}

-- the list without one item
pub record Without (v : ℤ) (ds : List ℤ) : Type 0 where
  pub rest : List ℤ
  pub size : length ds ≡ suc (length rest)
  pub keeps : (w : ℤ) → In w ds → (w ≡ v) ⊎ In w rest

without : (v : ℤ) (ds : List ℤ) → In v ds → Without v ds
without v [] h = absurd h
without v (d ∷ ds) (inl e) = record { rest = ds; size = refl; keeps = λ w u. elim u [ inl f ↦ inl (f ∙ sym e) | inr x ↦ inr x ] }
without v (d ∷ ds) (inr h) =
    let r = without v ds h in
    record { rest = d ∷ r.rest; size = ap suc r.size; keeps = λ w u. elim u [ inl f ↦ inr (inl f) | inr x ↦ elim (r.keeps w x) [ inl f ↦ inl f | inr y ↦ inr (inr y) ] ] }

at_most : (i : ℕ) (xs : List Record) (ds : List ℤ) → Distinct i xs → ((x : Record) → In x xs → (v : ℤ) × (value_at x.pairs i ≡ Some v) × In v ds) → length xs ≤ length ds
at_most i [] ds d own = omega arith
at_most i (x ∷ xs) ds d own =
    let o = own x (inl refl) in
    let w = without o.0 ds o.2 in
    let r = at_most i xs w.rest d.1 (λ y u. let q = own y (inr u) in (q.0, q.1, elim (w.keeps q.0 q.2) [ inl e ↦ absurd (d.0 y u (o.1 ∙ ap Some (sym e) ∙ sym q.1)) | inr v ↦ v ])) in
    let s = w.size in
    omega arith

some-same : {X : Type 0} → (x y : X) → Some x ≡ Some y → x ≡ y
some-same x y e = cc

apart : (i : ℕ) (xs : List Record) → Distinct i xs → (m n : ℕ) (x y : Record) → slice_get xs m ≡ Some x → slice_get xs n ≡ Some y → value_at x.pairs i ≡ value_at y.pairs i → m ≡ n
apart i [] d m n x y e f g = cc
apart i (z ∷ zs) d zero zero x y e f g = refl
apart i (z ∷ zs) d zero (suc n) x y e f g = absurd (d.0 y (get-In zs n y f) (ap (λ (t : Record). value_at t.pairs i) (some-same z x e) ∙ g))
apart i (z ∷ zs) d (suc m) zero x y e f g = absurd (d.0 x (get-In zs m x e) (ap (λ (t : Record). value_at t.pairs i) (some-same z y f) ∙ sym g))
apart i (z ∷ zs) d (suc m) (suc n) x y e f g = ap suc (apart i zs d.1 m n x y e f g)

-- rising numbers between two bounds
between : (xs : List ℕ) (low high : ℕ) → IsRising xs → low ≤ high + 1 → ((x : ℕ) → In x xs → low ≤ x) → ((x : ℕ) → In x xs → x ≤ high) → length xs + low ≤ high + 1
between [] low high r l a b = omega arith
between (x ∷ xs) low high r l a b =
    let q = b x (inl refl) in let s = a x (inl refl) in
    let t = between xs (x + 1) high r.1 (omega arith) (λ y u. let z = r.0 y u in omega arith) (λ y u. b y (inr u)) in
    omega arith

names_length : (pairs : Nogood) → length (names pairs) ≡ length pairs
names_length [] = refl
names_length (y ∷ ys) = ap suc (names_length ys)

named : (pairs : Nogood) (k : ℕ) → In k (names pairs) → (y : Pair) × In y pairs × (k ≡ y.var)
named [] k h = absurd h
named (y ∷ ys) k (inl e) = (y, inl refl, e)
named (y ∷ ys) k (inr h) = let r = named ys k h in (r.0, inr r.1, r.2)

module _ (p : Csp) (i : ℕ) (a : Agent) (h : Sound p i a) where
  own : (x : Record) → In x a.recorded → (v : ℤ) × (value_at x.pairs i ≡ Some v) × In v (domain p i)
  own x u = let q = h.proper x u in (q.own, q.has, (q.in_domains (pair_of i q.own) (value_at-In x.pairs i q.own q.has)).value)

  pub bounded_store : IsBoundedStore p i a
  bounded_store = record {
    few = at_most i a.recorded (domain p i) h.distinct own;
    own = own;
    apart = apart i a.recorded h.distinct;
    short = λ x u.
        let q = h.proper x u in
        let n = names_length x.pairs in
        let b = between (names x.pairs) 0 i q.rising (omega arith) (λ k v. omega arith) (λ k v. let r = named x.pairs k v in let o = q.others r.0 r.1 in let e = r.2 in omega arith) in
        omega arith;
    agreeing = h.agreeing;
  }
