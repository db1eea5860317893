-- The step that an agent makes is right, where its view and its nogoods are.
use Rattle.dcsp_defs.specs.declared.nogood.Pair.{Pair}
use Rattle.std.proofs.Common.{◌≡◌, ◌≢◌, ℕ, zero, suc, ◌+◌, ◌<◌, ◌≤◌, Bool, true, false, cond, not, inl, inr, List, [], ◌∷◌, ◌++◌, map, filter, find, filter_map, slice_get, ◌==◌, Option, Some, None, ℤ, pos, is_some, unwrap_or, refl, sym, ap, ◌∙◌, subst, arith, append-nil, zero-add}
use Rattle.std.proofs.lemmas.Bool.Decides.{nat_tests, eqb_tells}
use Rattle.std.specs.List.{list_any, list_all, cons_option, enumerate_from, AllZip}
use Rattle.dcsp_defs.specs.Words.{In, below, is_value}
use Rattle.dcsp_defs.specs.Csp.{Csp, IsCsp, Constraint, Nogood, PartialAssignment, filled, with_value, is_violated, agrees, domain, count}
use Rattle.dcsp_defs.specs.Pairs.{value_at}
use Rattle.dcsp_defs.specs.declared.Step.{Step}
use Rattle.dcsp_defs.specs.Derivation.{step_at, IsReason, IsKnownPair, IsRightAt}
use Rattle.abt_defs.specs.Agents.{Agent, Record, Stamped, StampedNogood, plain, known, value_in}
use Rattle.abt_defs.specs.Reasons.{Item, items, constraint_item, record_item, cause, causes, ruled_out, blamed, derived, step_of}
use Rattle.dcsp_defs.specs.Csp.{owns}
use Rattle.dcsp_defs.proofs.Lists.{In-map, In-split, In-below, In-filter_map, find-found, list_any-In, list_all-In, In-list_all, and_left, and_right, and_both, get-In, filter-from}
use Rattle.law_agent.proofs.Nogoods.{In-map-from, In-plain, pairs_rise, unnamed_none}
use Rattle.law_agent.proofs.Owners.{owner_greatest}
use Rattle.law_agent.proofs.Facts.{Sound}
use Rattle.law_agent.proofs.Settles.{blamed-some, derived_seen, derived_higher, derived_rises}

-- ---- what the derived nogood gives

given-more : (ys : StampedNogood) (z : ℕ × Stamped) (k : ℕ) → ((y : ℕ × Stamped) → In y ys → y.0 < z.0) → value_at (plain (ys ++ z ∷ [])) k ≡ cond (k == z.0) (Some z.1.value) (value_at (plain ys) k)
given-more [] z k h = refl
given-more (y ∷ ys) z k h = elim (eqb_tells k y.0) [
  | inl t ↦ let l = h y (inl refl) in let e = t.1 in let ne : (k == z.0) ≡ false = apart k z.0 (let x : k < z.0 = omega arith in x) in rw (t.0, ne) refl
  | inr t ↦ rw t.0 (given-more ys z k (λ x u. h x (inr u)))
]
  where
    apart : (a b : ℕ) → a < b → (a == b) ≡ false
    apart a b l = grind (arith, nat_tests)

filter_map-more : {X Y : Type 0} → (f : X → Option Y) (xs : List X) (x : X) → filter_map f (xs ++ x ∷ []) ≡ filter_map f xs ++ cons_option (f x) []
filter_map-more f [] x = refl
filter_map-more f (y ∷ ys) x = elim (f y) as (λ o. cons_option o (filter_map f (ys ++ x ∷ [])) ≡ cons_option o (filter_map f ys) ++ cons_option (f x) []) [
  | None ↦ filter_map-more f ys x
  | Some z ↦ ap (λ u. z ∷ u) (filter_map-more f ys x)
]

-- the pair of k is among those of the numbers below n
given_map : (f : ℕ → Option (ℕ × Stamped)) → ((k : ℕ) (y : ℕ × Stamped) → f k ≡ Some y → y.0 ≡ k) → (n k : ℕ) (y : ℕ × Stamped) → k < n → f k ≡ Some y → value_at (plain (filter_map f (below n))) k ≡ Some y.1.value
given_map f own zero k y l e = absurd (omega arith)
given_map f own (suc n) k y l e = rw (filter_map-more f (below n) n) (last_one (λ u. given_map f own n k y u e) (f n) refl)
  where
    upto : (z : ℕ × Stamped) → z.0 ≡ n → (x : ℕ × Stamped) → In x (filter_map f (below n)) → x.0 < z.0
    upto z g x u = let r = In-filter_map f x (below n) u in let b = In-below n r.0 r.1 in let q = own r.0 x r.2 in omega arith

    last_one : (k < n → value_at (plain (filter_map f (below n))) k ≡ Some y.1.value) → (o : Option (ℕ × Stamped)) → f n ≡ o → value_at (plain (filter_map f (below n) ++ cons_option o [])) k ≡ Some y.1.value
    last_one ih None q = rw (append-nil (filter_map f (below n))) (elim (eqb_tells k n) [
      | inl t ↦ let x : None ≡ Some y = sym q ∙ (ap f (sym t.1) ∙ e) in cc
      | inr t ↦ let ne : k ≢ n = t.1 in ih (omega arith)
    ])
    last_one ih (Some z) q = given-more (filter_map f (below n)) z k (upto z (own n z q)) ∙ (elim (eqb_tells k z.0) [
      | inl t ↦ let g : k ≡ n = t.1 ∙ own n z q in let x : Some z ≡ Some y = sym q ∙ (ap f (sym g) ∙ e) in let w : z ≡ y = cc in rw t.0 (ap (λ (u : ℕ × Stamped). Some u.1.value) w)
      | inr t ↦ let g = own n z q in let ne : k ≢ z.0 = t.1 in rw t.0 (ih (omega arith))
    ])

-- a variable that a reason names is value_at by the derived nogood as the view has it
pub derived_given : (p : Csp) (i : ℕ) (a : Agent) (k : ℕ) (v : Stamped) (x : Item) → k < i → In x (causes p i (known a) a.recorded) → In k x.variables → a.view k ≡ Some v → value_at (plain (derived p i a.view a.recorded)) k ≡ Some v.value
derived_given p i a k v x l c n e = given_map (blamed p i a.view a.recorded) (λ j y h. (blamed-some p i a j y h).0) i k (k, v) l here
  where
    same : (m : ℕ) → (m == m) ≡ true
    same m = grind (arith, nat_tests)

    here : blamed p i a.view a.recorded k ≡ Some (k, v)
    here = let any : list_any (λ (x : Item). list_any (λ z. k == z) x.variables) (causes p i (known a) a.recorded) ≡ true = list_any-In (λ (x : Item). list_any (λ z. k == z) x.variables) x (causes p i (known a) a.recorded) c (list_any-In (λ z. k == z) k x.variables n (same k)) in
        rw (any, e) refl

-- ---- items

In-filter_map-to : {X Y : Type 0} → (f : X → Option Y) (x : X) (y : Y) (xs : List X) → In x xs → f x ≡ Some y → In y (filter_map f xs)
In-filter_map-to f x y [] h e = absurd h
In-filter_map-to f x y (z ∷ zs) (inl g) e = let q : f z ≡ Some y = ap f (sym g) ∙ e in rw q (inl refl)
In-filter_map-to f x y (z ∷ zs) (inr h) e = elim (f z) as (λ o. In y (cons_option o (filter_map f zs))) [ None ↦ In-filter_map-to f x y zs h e | Some w ↦ inr (In-filter_map-to f x y zs h e) ]

-- a numbered rule stands at its number
pub enumerate-at : {X : Type 0} → (n : ℕ) (xs : List X) (x : ℕ × X) → In x (enumerate_from n xs) → (k : ℕ) × (x.0 ≡ n + k) × (slice_get xs k ≡ Some x.1)
enumerate-at n [] x h = absurd h
enumerate-at n (y ∷ ys) x (inl e) = (0, ap (λ (t : ℕ × _). t.0) e ∙ omega arith, ap (λ (t : ℕ × _). Some t.1) (sym e))
enumerate-at n (y ∷ ys) x (inr h) = let r = enumerate-at (n + 1) ys x h in (suc r.0, (let q = r.1 in omega arith), r.2)

all-same : {X : Type 0} → (q r : X → Bool) (xs : List X) → ((x : X) → In x xs → q x ≡ true → r x ≡ true) → list_all q xs ≡ true → list_all r xs ≡ true
all-same q r xs h e = In-list_all r xs (λ x u. h x u (list_all-In q x xs e u))

-- values that agree on the scope break the rule alike
violated-same : (known other : PartialAssignment) (r : Constraint) → ((f g : ℕ → ℤ) → ((k : ℕ) → In k r.scope → f k ≡ g k) → r.test f ≡ r.test g) → ((k : ℕ) → In k r.scope → is_some (known k) ≡ true → known k ≡ other k) → is_violated known r ≡ true → is_violated other r ≡ true
violated-same known other r local h e =
    let all = and_left _ _ e in
    let same : (k : ℕ) → In k r.scope → known k ≡ other k = λ k u. h k u (list_all-In (λ k. is_some (known k)) k r.scope all u) in
    and_both _ _
    (In-list_all (λ k. is_some (other k)) r.scope (λ k u. ap is_some (sym (same k u)) ∙ list_all-In (λ k. is_some (known k)) k r.scope all u))
    (ap not (sym (local (filled known) (filled other) (λ k u. ap (λ o. unwrap_or o (pos 0)) (same k u)))) ∙ and_right _ _ e)

-- a step of the list with this number has this nogood
pub record Source (steps : List Step) (number : ℕ) (pairs : Nogood) : Type 0 where
  pub step : Step
  pub there : step_at steps number ≡ Some step
  pub same : step.nogood ≡ pairs

pub seen_is : (o : Option Stamped) → is_some (value_in o) ≡ true → (v : Stamped) × (o ≡ Some v)
seen_is None h = cc
seen_is (Some v) h = (v, refl)

is_value-some : (o : Option ℤ) (v : ℤ) → is_value o v ≡ true → is_some o ≡ true
is_value-some None v h = cc
is_value-some (Some w) v h = refl

module _ (p : Csp) (ok : IsCsp p) (steps : List Step) (i : ℕ) (a : Agent) (h : Sound p i a) (sources : (x : Record) → In x a.recorded → Source steps x.step x.pairs) where
  -- under i's own value, the derived nogood gives what the view has
  seen_same : (w : ℤ) (x : Item) (k : ℕ) → In x (causes p i (known a) a.recorded) → In k x.variables → k ≤ i → is_some (with_value i w (known a) k) ≡ true → with_value i w (known a) k ≡ with_value i w (value_at (plain (derived p i a.view a.recorded))) k
  seen_same w x k c n l s = elim (eqb_tells k i) [
    | inl t ↦ rw t.0 refl
    | inr t ↦
        let ne : k ≢ i = t.1 in
        let v = seen_is (a.view k) (rw t.0 at s) in
        rw t.0 (ap value_in v.1 ∙ sym (derived_given p i a k v.0 x (omega arith) c n v.1))
  ]

  pub reason_is : (w : ℤ) (x : Item) → In w (domain p i) → cause p i (known a) a.recorded w ≡ Some x → IsReason p steps (plain (derived p i a.view a.recorded)) i w x.reason
  reason_is w x d e =
      let f = find-found (λ (z : Item). z.violated (with_value i w (known a))) x (items p i a.recorded) e in
      let c = In-filter_map-to (cause p i (known a) a.recorded) w x (domain p i) d e in
      elim (In-split x (map constraint_item (filter (λ (x : ℕ × Constraint). owns i x.1) (enumerate_from 0 p.constraints))) (map record_item a.recorded) f.0) [
        | inl u ↦
            let r = In-map-from constraint_item x _ u in
            let o = filter-from (λ (x : ℕ × Constraint). owns i x.1) r.0 (enumerate_from 0 p.constraints) r.1 in
            by_constraint r.0 o.0 o.1 (subst (λ (z : Item). In z (causes p i (known a) a.recorded)) r.2 c) (subst (λ (z : Item). z.violated (with_value i w (known a)) ≡ true) r.2 f.1) x r.2
        | inr u ↦
            let r = In-map-from record_item x a.recorded u in
            by_record r.0 r.1 (subst (λ (z : Item). In z (causes p i (known a) a.recorded)) r.2 c) (subst (λ (z : Item). z.violated (with_value i w (known a)) ≡ true) r.2 f.1) x r.2
      ]
    where
      by_constraint : (r : ℕ × Constraint) → In r (enumerate_from 0 p.constraints) → owns i r.1 ≡ true → In (constraint_item r) (causes p i (known a) a.recorded) → is_violated (with_value i w (known a)) r.1 ≡ true → (x : Item) → x ≡ constraint_item r → IsReason p steps (plain (derived p i a.view a.recorded)) i w x.reason
      by_constraint r n o c b x e =
          let q = enumerate-at 0 p.constraints r n in
          let at : slice_get p.constraints r.0 ≡ Some r.1 = ap (slice_get p.constraints) (q.1 ∙ zero-add q.0) ∙ q.2 in
          subst (λ (z : Item). IsReason p steps (plain (derived p i a.view a.recorded)) i w z.reason) (sym e) (
            r.1,
            at,
            violated-same (with_value i w (known a)) (with_value i w (value_at (plain (derived p i a.view a.recorded)))) r.1 ((ok.constraints r.1 (get-In p.constraints r.0 r.1 at)).local)
                (λ k u s. seen_same w (constraint_item r) k c u (owner_greatest p ok i k r.1 (get-In p.constraints r.0 r.1 at) o u) s) b,
          )

      by_record : (r : Record) → In r a.recorded → In (record_item r) (causes p i (known a) a.recorded) → agrees (with_value i w (known a)) r.pairs ≡ true → (x : Item) → x ≡ record_item r → IsReason p steps (plain (derived p i a.view a.recorded)) i w x.reason
      by_record r n c b x e =
          let s = sources r n in
          let l = h.proper r n in
          let agreed : agrees (with_value i w (value_at (plain (derived p i a.view a.recorded)))) r.pairs ≡ true =
          all-same (λ (y : Pair). is_value (with_value i w (known a) y.var) y.value) (λ (y : Pair). is_value (with_value i w (value_at (plain (derived p i a.view a.recorded))) y.var) y.value) r.pairs
          (λ y u g. ap (λ o. is_value o y.value) (sym (seen_same w (record_item r) y.var c (In-map (λ (y : Pair). y.var) y r.pairs u) (l.others y u) (is_value-some _ y.value g))) ∙ g) b in
          subst (λ (z : Item). IsReason p steps (plain (derived p i a.view a.recorded)) i w z.reason) (sym e)
          (s.step, s.there, ap (agrees (with_value i w (value_at (plain (derived p i a.view a.recorded))))) s.same ∙ agreed)

  reasons_of : (ws : List ℤ) → ((w : ℤ) → In w ws → In w (domain p i) × (ruled_out p i (known a) a.recorded w ≡ true)) → AllZip (IsReason p steps (plain (derived p i a.view a.recorded)) i) ws (map (λ (x : Item). x.reason) (filter_map (cause p i (known a) a.recorded) ws))
  reasons_of [] g = tt
  reasons_of (w ∷ ws) g = at (cause p i (known a) a.recorded w) refl (g w (inl refl)).1 (reasons_of ws (λ v u. g v (inr u)))
    where
      at : (o : Option Item) → cause p i (known a) a.recorded w ≡ o → is_some o ≡ true → AllZip (IsReason p steps (plain (derived p i a.view a.recorded)) i) ws (map (λ (x : Item). x.reason) (filter_map (cause p i (known a) a.recorded) ws)) → AllZip (IsReason p steps (plain (derived p i a.view a.recorded)) i) (w ∷ ws) (map (λ (x : Item). x.reason) (cons_option o (filter_map (cause p i (known a) a.recorded) ws)))
      at None e s r = cc
      at (Some x) e s r = (reason_is w x (g w (inl refl)).0 e, r)

  find-none : (q : ℤ → Bool) (xs : List ℤ) → find q xs ≡ None → (x : ℤ) → In x xs → q x ≡ false
  find-none q [] e x u = absurd u
  find-none q (y ∷ ys) e x u = (elim (q y) as (λ b. q y ≡ b → cond b (Some y) (find q ys) ≡ None → q x ≡ false) [
    | true ↦ λ f g. cc
    | false ↦ λ f g. elim u [ inl v ↦ ap q v ∙ f | inr v ↦ find-none q ys g x v ]
  ]) refl e

  -- where each value is ruled out, the step is right
  pub step_right : i < count p → find (λ v. not (ruled_out p i (known a) a.recorded v)) (domain p i) ≡ None → IsRightAt p steps i (step_of p i a.view a.recorded)
  step_right l none = record {
    variable = l;
    rising = pairs_rise (plain (derived p i a.view a.recorded)) (derived_rises p i a);
    pairs = λ y u.
        let z = In-plain (derived p i a.view a.recorded) y u in
        let v = h.in_view z.0.0 z.0.1 (derived_seen p i a z.0 z.1) in
        subst (IsKnownPair p) (sym z.2) (record { variable = v.0; value = v.1 });
    other = unnamed_none (plain (derived p i a.view a.recorded)) i (λ y u e.
        let z = In-plain (derived p i a.view a.recorded) y u in
        let b = derived_higher p i a z.0 z.1 in
        let f : y.var ≡ z.0.0 = ap (λ (t : Pair). t.var) z.2 in omega arith);
    reasons = reasons_of (domain p i) (λ w u. (u, out (ruled_out p i (known a) a.recorded w) (find-none (λ v. not (ruled_out p i (known a) a.recorded v)) (domain p i) none w u)));
  }
    where
      out : (b : Bool) → not b ≡ false → b ≡ true
      out true e = refl
      out false e = cc
