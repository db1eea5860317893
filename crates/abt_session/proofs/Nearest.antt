-- A starved choice is 0 or 1, since no pair is ready twice.
use Rattle.std.proofs.Common.{◌≡◌, ℕ, zero, suc, ◌≤◌, Bool, true, false, cond, not, nat_lt, inl, inr, List, [], ◌∷◌, ◌++◌, length, map, filter, flat_map, Some, None, is_some, unwrap_or, refl, sym, ap, ◌∙◌, subst, arith}
use Rattle.std.specs.List.{position_or_len, AllByRecursion}
use Rattle.std.proofs.lemmas.Bool.Decides.{eqb_tells}
use Rattle.std.proofs.lemmas.List.Sums.{position_or_len_is}
use Rattle.dcsp_defs.specs.Csp.{Csp, count}
use Rattle.dcsp_defs.specs.Words.{In, below}
use Rattle.dcsp_defs.proofs.Lists.{In-split, In-below, filter-from}
use Rattle.abt_defs.specs.Network.{Network, ready, deliver, pairs, is_empty}
use Rattle.abt_defs.specs.Runs.{stop, starved_choice, starved_choices}
use Rattle.law_agent.proofs.Runs.{In-pairs}
use Rattle.abt_session.proofs.Links.{is_other, unlike_pair}

-- no item comes twice
abbrev pub IsOnce : {X : Type 0} → List X → Type 0
IsOnce [] = Unit {0}
IsOnce (x ∷ xs) = (In x xs → ⊥) × IsOnce xs

once-append : {X : Type 0} → (xs ys : List X) → IsOnce xs → IsOnce ys → ((x : X) → In x xs → In x ys → ⊥) → IsOnce (xs ++ ys)
once-append [] ys h k d = k
once-append (x ∷ xs) ys h k d = (λ u. elim (In-split x xs ys u) [ inl v ↦ h.0 v | inr w ↦ d x (inl refl) w ], once-append xs ys h.1 k (λ y u w. d y (inr u) w))

once-below : (n : ℕ) → IsOnce (below n)
once-below zero = tt
once-below (suc n) = once-append (below n) (n ∷ []) (once-below n) ((λ u. u), tt) (λ x u w. elim w [ inl e ↦ (let l = In-below n x u in omega arith) | inr v ↦ v ])

In-row : (k : ℕ) (x : ℕ × ℕ) (is : List ℕ) → In x (map (λ i. (k, i)) is) → (x.0 ≡ k) × In x.1 is
In-row k x [] h = absurd h
In-row k x (i ∷ is) (inl e) = (ap (λ (y : ℕ × ℕ). y.0) e, inl (ap (λ (y : ℕ × ℕ). y.1) e))
In-row k x (i ∷ is) (inr h) = let r = In-row k x is h in (r.0, inr r.1)

once-row : (k : ℕ) (is : List ℕ) → IsOnce is → IsOnce {X = ℕ × ℕ} (map (λ i. (k, i)) is)
once-row k [] h = tt
once-row k (i ∷ is) h = (λ u. h.0 (In-row k (k, i) is u).1, once-row k is h.1)

once-rows : (n : ℕ) (ks : List ℕ) → IsOnce ks → IsOnce {X = ℕ × ℕ} (flat_map (λ k. map (λ i. (k, i)) (below n)) ks)
once-rows n [] h = tt
once-rows n (k ∷ ks) h = once-append (map (λ i. (k, i)) (below n)) (flat_map (λ k. map (λ i. (k, i)) (below n)) ks) (once-row k (below n) (once-below n)) (once-rows n ks h.1)
    (λ x u w. h.0 (subst (λ j. In j ks) (In-row k x (below n) u).0 (In-pairs n x ks w).1))

once-filter : {X : Type 0} → (q : X → Bool) (xs : List X) → IsOnce xs → IsOnce (filter q xs)
once-filter q [] h = tt
once-filter q (x ∷ xs) h = elim (q x) as (λ b. IsOnce (cond b (x ∷ filter q xs) (filter q xs))) [
  | true ↦ (λ u. h.0 (filter-from q x xs u).0, once-filter q xs h.1)
  | false ↦ once-filter q xs h.1
]

once-ready : (p : Csp) (net : Network) → IsOnce (ready p net)
once-ready p net = once-filter (λ (x : ℕ × ℕ). not (is_empty (net.links x.0 x.1))) (pairs (count p)) (once-rows (count p) (below (count p)) (once-below (count p)))

near : (n m : ℕ) → n ≤ 1 → unwrap_or (cond (nat_lt n m) (Some n) None) 0 ≤ 1
near n m l = elim (nat_lt n m) as (λ b. unwrap_or (cond b (Some n) None) 0 ≤ 1) [ true ↦ l | false ↦ omega arith ]

module _ (a b : ℕ) where
  pair_if : (x : ℕ × ℕ) → is_other a b x ≡ false → x ≡ (a, b)
  pair_if x h = elim (eqb_tells a x.0) [
    | inl t ↦ elim (eqb_tells b x.1) [ inl u ↦ rw (t.1, u.1) refl | inr u ↦ absurd (let z : is_other a b x ≡ true = rw (t.0, u.0) refl in cc) ]
    | inr t ↦ absurd (let z : is_other a b x ≡ true = rw t.0 refl in cc)
  ]

  -- the first or the second item is another pair
  first_two : (xs : List (ℕ × ℕ)) → IsOnce xs → position_or_len (is_other a b) xs ≤ 1
  first_two [] h = omega arith
  first_two (x ∷ xs) h = by_first xs h (is_other a b x) refl
    where
      by_first : (ys : List (ℕ × ℕ)) → IsOnce (x ∷ ys) → (t : Bool) → is_other a b x ≡ t → position_or_len (is_other a b) (x ∷ ys) ≤ 1
      by_first ys g true e = let z = position_or_len_is (is_other a b) (x ∷ ys) 0 (0, 0) (omega arith) (λ k l. absurd (omega arith)) (λ l. e) in omega arith
      by_first [] g false e = let z = position_or_len_is (is_other a b) (x ∷ []) 1 (0, 0) (omega arith) (λ k l. let q : k ≡ 0 = omega arith in rw q e) (λ l. absurd (omega arith)) in omega arith
      by_first (y ∷ ys) g false e =
          let unlike : y ≡ (a, b) → ⊥ = λ f. g.0 (inl (pair_if x e ∙ sym f)) in
          let z = position_or_len_is (is_other a b) (x ∷ y ∷ ys) 1 (0, 0) (omega arith) (λ k l. let q : k ≡ 0 = omega arith in rw q e) (λ l. unlike_pair a b y unlike) in omega arith

pub at_most_one : (p : Csp) (a b : ℕ) (net : Network) → starved_choice p a b net ≤ 1
at_most_one p a b net = near (position_or_len (is_other a b) (ready p net)) (length (ready p net)) (first_two a b (ready p net) (once-ready p net))

module _ (p : Csp) (a b : ℕ) where
  -- each starved choice is 0 or 1
  pub choices_small : (most : ℕ) (net : Network) → AllByRecursion (λ c. c ≤ 1) (starved_choices p a b most net)
  choices_small zero net = tt
  choices_small (suc most) net = elim (is_some (stop p (suc most) net)) as (λ s. AllByRecursion (λ c. c ≤ 1) (cond s [] (starved_choice p a b net ∷ starved_choices p a b most (deliver p (starved_choice p a b net) net)))) [
    | true ↦ tt
    | false ↦ (at_most_one p a b net, choices_small most (deliver p (starved_choice p a b net) net))
  ]

  -- and there are no more than asked for
  pub choices_few : (most : ℕ) (net : Network) → length (starved_choices p a b most net) ≤ most
  choices_few zero net = omega arith
  choices_few (suc most) net = let f = choices_few most (deliver p (starved_choice p a b net) net) in elim (is_some (stop p (suc most) net)) as (λ s. length (cond s [] (starved_choice p a b net ∷ starved_choices p a b most (deliver p (starved_choice p a b net) net))) ≤ suc most) [
    | true ↦ omega arith
    | false ↦ omega (arith, f)
  ]
