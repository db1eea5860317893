-- What learning, asking and keeping do to an agent.
use Rattle.dcsp_defs.specs.declared.nogood.Pair.{Pair}
use Rattle.std.proofs.Common.{◌≡◌, ◌≢◌, ℕ, ◌<◌, ◌≤◌, Bool, true, false, cond, not, ◌&&◌, ◌||◌, ◌⊎◌, inl, inr, List, [], ◌∷◌, ◌++◌, filter, ◌==◌, nat_lt, Option, Some, None, ℤ, refl, sym, ap, ◌∙◌, subst, arith, int_eq}
use Rattle.std.proofs.lemmas.Bool.{ne_eqb}
use Rattle.std.proofs.lemmas.Bool.Decides.{nat_tests, eqb_tells, Decides-ltb, Decides-int_eq}
use Rattle.std.specs.List.{list_any, list_all}
use Rattle.dcsp_defs.specs.Words.{In, update, is_value}
use Rattle.dcsp_defs.specs.Pairs.{value_at}
use Rattle.abt_defs.specs.Agents.{Agent, Record, Stamped, StampedNogood, known}
use Rattle.abt_defs.specs.Steps.{is_newer, forget, learn, learn_all, is_news, fits, is_refused, keep}
use Rattle.dcsp_defs.proofs.Lists.{In-left, In-right, In-split, list_all-In, In-list_all, list_any-In, In-list_any, and_left, and_right}
use Rattle.law_agent.proofs.Nogoods.{is_value-is, is-is_value}
use Rattle.law_agent.proofs.Facts.{AtLeast, Distinct, Agreeing}

pub record Learns (i : ℕ) (a b : Agent) (pairs : StampedNogood) : Type 0 where
  pub view_from : (k : ℕ) (s : Stamped) → b.view k ≡ Some s → (a.view k ≡ Some s) ⊎ ((k < i) × In (k, s) pairs)
  pub view_up : (k : ℕ) (s : Stamped) → a.view k ≡ Some s → AtLeast (b.view k) s.stamp
  pub covers : (y : ℕ × Stamped) → In y pairs → y.0 < i → AtLeast (b.view y.0) y.1.stamp
  pub value : b.value ≡ a.value
  pub stamp : b.stamp ≡ a.stamp
  pub waits : b.waits ≡ a.waits
  pub tells : b.tells ≡ a.tells
  pub linked : b.linked ≡ a.linked
  pub recorded : (x : Record) → In x b.recorded → In x a.recorded
  pub agreeing : Agreeing i a → Agreeing i b
  pub distinct : Distinct i a.recorded → Distinct i b.recorded
  pub silent : is_news i pairs a ≡ false → b ≡ a

pub filter-In : {X : Type 0} → (q : X → Bool) (x : X) (xs : List X) → In x (filter q xs) → In x xs × (q x ≡ true)
filter-In q x [] h = absurd h
filter-In q x (y ∷ ys) h = (elim (q y) as (λ b. q y ≡ b → In x (cond b (y ∷ filter q ys) (filter q ys)) → In x (y ∷ ys) × (q x ≡ true)) [
  | true ↦ λ e u. elim u [ inl g ↦ (inl g, ap q g ∙ e) | inr v ↦ let r = filter-In q x ys v in (inr r.0, r.1) ]
  | false ↦ λ e u. let r = filter-In q x ys u in (inr r.0, r.1)
]) refl h

distinct-filter : (i : ℕ) (q : Record → Bool) (xs : List Record) → Distinct i xs → Distinct i (filter q xs)
distinct-filter i q [] d = tt
distinct-filter i q (x ∷ xs) d = elim (q x) as (λ b. Distinct i (cond b (x ∷ filter q xs) (filter q xs))) [
  | true ↦ (λ y u. d.0 y (filter-In q y xs u).0, distinct-filter i q xs d.1)
  | false ↦ distinct-filter i q xs d.1
]

nothing : (i : ℕ) (a : Agent) (pairs : StampedNogood) → ((y : ℕ × Stamped) → In y pairs → y.0 < i → AtLeast (a.view y.0) y.1.stamp) → Learns i a a pairs
nothing i a pairs c = record {
  view_from = λ k s e. inl e;
  view_up = λ k s e. (s, e, omega arith);
  covers = c;
  value = refl;
  stamp = refl;
  waits = refl;
  tells = refl;
  linked = refl;
  recorded = λ x u. u;
  agreeing = λ h. h;
  distinct = λ h. h;
  silent = λ e. refl;
}

-- what is not newer is known
pub not_newer : (o : Option Stamped) (n : ℕ) → is_newer o n ≡ false → AtLeast o n
not_newer None n h = cc
not_newer (Some t) n h = (t, refl, le t.stamp n h)
  where
    le : (a b : ℕ) → nat_lt a b ≡ false → b ≤ a
    le a b e = grind (arith, nat_tests)

newer_up : (o : Option Stamped) (n : ℕ) (s : Stamped) → is_newer o n ≡ true → o ≡ Some s → s.stamp ≤ n
newer_up o n s h e = let f : nat_lt s.stamp n ≡ true = subst (λ z. is_newer z n ≡ true) e h in let l = (Decides-ltb s.stamp n).0 f in omega arith

-- what is newer enters the view
enters : (i k : ℕ) (s : Stamped) (a : Agent) → k < i → is_newer (a.view k) s.stamp ≡ true → Learns i a (record a { view = update a.view k (Some s); recorded = forget k s.value a.recorded }) ((k, s) ∷ [])
enters i k s a l n = record {
  view_from = λ j t e. elim (eqb_tells j k) [
    | inl u ↦ let q : Some s ≡ Some t = rw u.0 at e in let q2 : t ≡ s = cc in inr ((let e2 = u.1 in omega arith), inl (ap (λ (z : ℕ). (z, t)) u.1 ∙ ap (λ (z : Stamped). (k, z)) q2))
    | inr u ↦ inl (rw u.0 at e)
  ];
  view_up = λ j t e. elim (eqb_tells j k) [
    | inl u ↦ rw u.0 (s, refl, newer_up (a.view k) s.stamp t n (sym (ap a.view u.1) ∙ e))
    | inr u ↦ rw u.0 (t, e, omega arith)
  ];
  covers = λ y u v. elim u [
    | inl e ↦ let same : (y.0 == k) ≡ true = is_same y.0 k (ap (λ (t : ℕ × Stamped). t.0) e) in let e2 : y.1 ≡ s = ap (λ (t : ℕ × Stamped). t.1) e in rw same (s, refl, (let f : y.1.stamp ≡ s.stamp = ap (λ (z : Stamped). z.stamp) e2 in omega arith))
    | inr w ↦ absurd w
  ];
  value = refl;
  stamp = refl;
  waits = refl;
  tells = refl;
  linked = refl;
  recorded = λ x u. (filter-In _ x a.recorded u).0;
  agreeing = λ h x u y v.
      let f = filter-In (λ (x : Record). list_all (λ (y : Pair). not (k == y.var) || int_eq y.value s.value) x.pairs) x a.recorded u in
      let g = list_all-In (λ (y : Pair). not (k == y.var) || int_eq y.value s.value) y x.pairs f.1 v in
      elim (eqb_tells k y.var) [
        | inl t ↦ inr (rw (is_same y.var k (sym t.1)) (ap Some (sym ((Decides-int_eq y.value s.value).0 (rw t.0 at g)))))
        | inr t ↦ elim (h x f.0 y v) [ inl e ↦ inl e | inr e ↦ inr (rw (ne_eqb y.var k (λ e2. t.1 (sym e2))) e) ]
      ];
  distinct = λ d. distinct-filter i _ a.recorded d;
  silent = λ e. let lt : nat_lt k i ≡ true = (Decides-ltb k i).1 l in let x : (true && true || false) ≡ false = rw (lt, n) at e in cc;
}
  where
    is_same : (x y : ℕ) → x ≡ y → (x == y) ≡ true
    is_same x y e = elim (eqb_tells x y) [ inl t ↦ t.0 | inr t ↦ absurd (t.1 e) ]

pub learns_one : (i k : ℕ) (s : Stamped) (a : Agent) → k < i → Learns i a (learn k s a) ((k, s) ∷ [])
learns_one i k s a l = (elim (is_newer (a.view k) s.stamp) as (λ b. is_newer (a.view k) s.stamp ≡ b → Learns i a (cond b (record a { view = update a.view k (Some s); recorded = forget k s.value a.recorded }) a) ((k, s) ∷ [])) [
  | true ↦ λ e. enters i k s a l e
  | false ↦ λ e. nothing i a ((k, s) ∷ []) (λ y u v. elim u [ inl f ↦ subst (λ (t : ℕ × Stamped). AtLeast (a.view t.0) t.1.stamp) (sym f) (not_newer (a.view k) s.stamp e) | inr w ↦ absurd w ])
]) refl

learns_first : (i : ℕ) (y : ℕ × Stamped) (a : Agent) → Learns i a (cond (nat_lt y.0 i) (learn y.0 y.1 a) a) (y ∷ [])
learns_first i y a = (elim (nat_lt y.0 i) as (λ b. nat_lt y.0 i ≡ b → Learns i a (cond b (learn y.0 y.1 a) a) (y ∷ [])) [
  | true ↦ λ e. learns_one i y.0 y.1 a ((Decides-ltb y.0 i).0 e)
  | false ↦ λ e. nothing i a (y ∷ []) (λ z u v. elim u [ inl f ↦ let g : z.0 ≡ y.0 = ap (λ (t : ℕ × Stamped). t.0) f in absurd (not_below z.0 y.0 i g v e) | inr w ↦ absurd w ])
]) refl
  where
    not_below : (a b n : ℕ) → a ≡ b → a < n → nat_lt b n ≡ false → ⊥
    not_below a b n e l f = let t : nat_lt b n ≡ true = (Decides-ltb b n).1 (omega arith) in let x : true ≡ false = sym t ∙ f in cc

or_false_left : (a b : Bool) → (a || b) ≡ false → a ≡ false
or_false_left true b h = h
or_false_left false b h = refl

or_false_right : (a b : Bool) → (a || b) ≡ false → b ≡ false
or_false_right true b h = cc
or_false_right false b h = h

at_least_up : (o : Option Stamped) (n m : ℕ) → m ≤ n → AtLeast o n → AtLeast o m
at_least_up o n m l a = (a.0, a.1, (let q = a.2 in omega arith))

pub learns_all : (i : ℕ) (pairs : StampedNogood) (a : Agent) → Learns i a (learn_all i pairs a) pairs
learns_all i [] a = nothing i a [] (λ y u. absurd u)
learns_all i (y ∷ ys) a =
    let b = cond (nat_lt y.0 i) (learn y.0 y.1 a) a in
    both b (learn_all i ys b) (learns_first i y a) (learns_all i ys b)
  where
    both : (b c : Agent) → Learns i a b (y ∷ []) → Learns i b c ys → Learns i a c (y ∷ ys)
    both b c f g = record {
      view_from = λ k s e. elim (g.view_from k s e) [
        | inl u ↦ elim (f.view_from k s u) [ inl v ↦ inl v | inr v ↦ inr (v.0, elim v.1 [ inl w ↦ inl w | inr w ↦ absurd w ]) ]
        | inr u ↦ inr (u.0, inr u.1)
      ];
      view_up = λ k s e. let q = f.view_up k s e in let r = g.view_up k q.0 q.1 in at_least_up (c.view k) q.0.stamp s.stamp q.2 r;
      covers = λ z u l. elim u [
        | inl e ↦ let q = f.covers z (inl e) l in let r = g.view_up z.0 q.0 q.1 in at_least_up (c.view z.0) q.0.stamp z.1.stamp q.2 r
        | inr v ↦ g.covers z v l
      ];
      value = g.value ∙ f.value;
      stamp = g.stamp ∙ f.stamp;
      waits = g.waits ∙ f.waits;
      tells = g.tells ∙ f.tells;
      linked = g.linked ∙ f.linked;
      recorded = λ x u. f.recorded x (g.recorded x u);
      agreeing = λ h. g.agreeing (f.agreeing h);
      distinct = λ h. g.distinct (f.distinct h);
      silent = λ e.
          let first : (nat_lt y.0 i && is_newer (a.view y.0) y.1.stamp) ≡ false = or_false_left (nat_lt y.0 i && is_newer (a.view y.0) y.1.stamp) (is_news i ys a) e in
          let one : is_news i (y ∷ []) a ≡ false = false_or (nat_lt y.0 i && is_newer (a.view y.0) y.1.stamp) first in
          let same : b ≡ a = f.silent one in
          g.silent (subst (λ (z : Agent). is_news i ys z ≡ false) (sym same) (or_false_right (nat_lt y.0 i && is_newer (a.view y.0) y.1.stamp) (is_news i ys a) e)) ∙ same;
    }
      where
        false_or : (x : Bool) → x ≡ false → (x || false) ≡ false
        false_or true e = e
        false_or false e = refl

-- ---- keeping a nogood

distinct-more : (i : ℕ) (xs : List Record) (x : Record) → Distinct i xs → ((y : Record) → In y xs → value_at y.pairs i ≢ value_at x.pairs i) → Distinct i (xs ++ x ∷ [])
distinct-more i [] x d n = (λ y u. absurd u, tt)
distinct-more i (z ∷ zs) x d n = (
  λ y u. elim (In-split y zs (x ∷ []) u) [
    | inl v ↦ d.0 y v
    | inr v ↦ elim v [ inl e ↦ subst (λ (t : Record). value_at z.pairs i ≢ value_at t.pairs i) (sym e) (n z (inl refl)) | inr w ↦ absurd w ]
  ],
  distinct-more i zs x d.1 (λ y u. n y (inr u)),
)

pub record Keeps (i : ℕ) (x : Record) (a b : Agent) : Type 0 where
  pub view : b.view ≡ a.view
  pub value : b.value ≡ a.value
  pub stamp : b.stamp ≡ a.stamp
  pub waits : b.waits ≡ a.waits
  pub tells : b.tells ≡ a.tells
  pub linked : b.linked ≡ a.linked
  pub more : (y : Record) → In y a.recorded → In y b.recorded
  pub recorded : (y : Record) → In y b.recorded → In y a.recorded ⊎ (y ≡ x)
  pub agreeing : ((y : Pair) → In y x.pairs → y.var ≤ i) → Agreeing i a → Agreeing i b
  pub distinct : Distinct i a.recorded → Distinct i b.recorded
  pub has : ((y : Pair) → In y x.pairs → y.var < i → known a y.var ≡ Some y.value) → (v : ℤ) → value_at x.pairs i ≡ Some v → (z : Record) × In z b.recorded × (value_at z.pairs i ≡ Some v)

pub keeps : (i : ℕ) (x : Record) (a : Agent) → Keeps i x a (keep i x a)
keeps i x a = (elim (fits i x.pairs a && not (is_refused i a.recorded (value_at x.pairs i))) as (λ b. (fits i x.pairs a && not (is_refused i a.recorded (value_at x.pairs i))) ≡ b → Keeps i x a (cond b (record a { recorded = a.recorded ++ x ∷ [] }) a)) [
  | true ↦ λ e. record {
    view = refl;
    value = refl;
    stamp = refl;
    waits = refl;
    tells = refl;
    linked = refl;
    more = λ y u. In-left y a.recorded _ u;
    recorded = λ y u. elim (In-split y a.recorded (x ∷ []) u) [ inl v ↦ inl v | inr v ↦ elim v [ inl f ↦ inr f | inr w ↦ absurd w ] ];
    agreeing = λ others h y u z v. elim (In-split y a.recorded (x ∷ []) u) [
      | inl w ↦ h y w z v
      | inr w ↦ elim w [ inl f ↦ fitting (and_left _ _ e) others z (subst (λ (t : Record). In z t.pairs) f v) | inr n ↦ absurd n ]
    ];
    distinct = λ d. distinct-more i a.recorded x d (λ y u f. other (value_at x.pairs i) refl (not_true _ (and_right _ _ e)) y u f);
    has = λ s v f. (x, In-right x a.recorded _ (inl refl), f);
  }
  | false ↦ λ e. record {
    view = refl;
    value = refl;
    stamp = refl;
    waits = refl;
    tells = refl;
    linked = refl;
    more = λ y u. u;
    recorded = λ y u. inl u;
    agreeing = λ others h. h;
    distinct = λ d. d;
    has = λ s v f. refusing s v f e;
  }
]) refl
  where
    not_true : (b : Bool) → not b ≡ true → b ≡ false
    not_true true h = cc
    not_true false h = refl

    fitting : fits i x.pairs a ≡ true → ((y : Pair) → In y x.pairs → y.var ≤ i) → (z : Pair) → In z x.pairs → (z.var ≡ i) ⊎ (known a z.var ≡ Some z.value)
    fitting e others z u = by_test (nat_lt z.var i) refl (list_all-In (λ (y : Pair). not (nat_lt y.var i) || is_value (known a y.var) y.value) z x.pairs e u)
      where
        by_test : (b : Bool) → nat_lt z.var i ≡ b → (not b || is_value (known a z.var) z.value) ≡ true → (z.var ≡ i) ⊎ (known a z.var ≡ Some z.value)
        by_test true f g = inr (is_value-is _ z.value g)
        by_test false f g = let l = others z u in inl (grind (arith, nat_tests))

    other : (o : Option ℤ) → value_at x.pairs i ≡ o → is_refused i a.recorded o ≡ false → (y : Record) → In y a.recorded → value_at y.pairs i ≡ value_at x.pairs i → ⊥
    other None f g y u e = cc
    other (Some v) f g y u e =
        let t : list_any (λ (x : Record). is_value (value_at x.pairs i) v) a.recorded ≡ true = list_any-In (λ (x : Record). is_value (value_at x.pairs i) v) y a.recorded u (is-is_value _ v (e ∙ f)) in
        let n : true ≡ false = sym t ∙ g in cc

    refusing : ((y : Pair) → In y x.pairs → y.var < i → known a y.var ≡ Some y.value) → (v : ℤ) → value_at x.pairs i ≡ Some v → (fits i x.pairs a && not (is_refused i a.recorded (value_at x.pairs i))) ≡ false → (z : Record) × In z a.recorded × (value_at z.pairs i ≡ Some v)
    refusing s v f e =
        let fit : fits i x.pairs a ≡ true = In-list_all (λ (y : Pair). not (nat_lt y.var i) || is_value (known a y.var) y.value) x.pairs (λ y u. by_test y u (nat_lt y.var i) refl) in
        let r : is_refused i a.recorded (value_at x.pairs i) ≡ true = out (fits i x.pairs a) (is_refused i a.recorded (value_at x.pairs i)) fit e in
        let q = In-list_any (λ (x : Record). is_value (value_at x.pairs i) v) a.recorded (subst (λ (o : Option ℤ). is_refused i a.recorded o ≡ true) f r) in
        (q.0, q.1, is_value-is _ v q.2)
      where
        by_test : (y : Pair) → In y x.pairs → (b : Bool) → nat_lt y.var i ≡ b → (not b || is_value (known a y.var) y.value) ≡ true
        by_test y u true e = is-is_value _ y.value (s y u ((Decides-ltb y.var i).0 e))
        by_test y u false e = refl

        out : (a b : Bool) → a ≡ true → (a && not b) ≡ false → b ≡ true
        out a true e f = refl
        out a false e f = let x : true ≡ false = (rw e at f) in cc
