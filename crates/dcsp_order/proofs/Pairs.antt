-- Nogoods in own numbers.
use Rattle.std.proofs.Common.{◌≡◌, ℕ, zero, suc, ◌-◌, ◌<◌, ◌≤◌, Bool, true, false, cond, List, [], ◌∷◌, ◌++◌, length, append-nil, Option, Some, None, refl, sym, ap, ◌∙◌, inl, inr, subst, arith}
use Rattle.std.specs.Prelude.{ℤ, filter_map, ◌==◌}
use Rattle.std.specs.Option.{option_map}
use Rattle.std.proofs.lemmas.Bool.Decides.{eqb_tells}
use Rattle.std.proofs.lemmas.List.Elements.{filter_map-append}
use Rattle.dcsp_defs.specs.declared.nogood.Pair.{Pair}
use Rattle.dcsp_defs.specs.Words.{In, below}
use Rattle.dcsp_defs.specs.Pairs.{pair_of, value_at, var_at, or_else, IsRising}
use Rattle.dcsp_defs.proofs.Lists.{In-filter_map, In-below}
use Rattle.dcsp_defs.proofs.PairsLemmas.{value_at-push, IsRising-push, last_var}
use Rattle.dcsp_order.specs.Orders.{place_of}
use Rattle.dcsp_order.specs.Renumbered.{pair_at, pairs_renumbered}

-- a value that the pairs give is that of one of them
pub given_in : (pairs : List Pair) (k : ℕ) (v : ℤ) → value_at pairs k ≡ Some v → In (pair_of k v) pairs
given_in [] k v e = cc
given_in (y ∷ ys) k v e = elim (eqb_tells k y.var) [
  | inl t ↦
      let q : Some y.value ≡ Some v = rw t.0 at e in
      let w : y.value ≡ v = cc in
      let same : pair_of k v ≡ pair_of y.var y.value = ap (λ z. pair_of z v) t.1 ∙ ap (pair_of y.var) (sym w) in
      inl same
  | inr t ↦ inr (given_in ys k v (rw t.0 at e))
]

module _ (order : List ℕ) (pairs : List Pair) where
  -- the pairs of the numbers below n
  abbrev pub first_pairs : ℕ → List Pair
  first_pairs n = filter_map (pair_at order pairs) (below n)

  pub one_more : (n : ℕ) (o : Option ℤ) → value_at pairs (place_of order n) ≡ o → first_pairs (suc n) ≡ first_pairs n ++ filter_map (λ (z : Option ℤ). option_map (pair_of n) z) (o ∷ [])
  one_more n o e =
      filter_map-append (pair_at order pairs) (below n) (n ∷ [])
      ∙ ap (λ (z : Option ℤ). first_pairs n ++ filter_map (λ (y : Option ℤ). option_map (pair_of n) y) (z ∷ [])) e

  -- nothing is given to n and above
  none_above : (n k : ℕ) → n ≤ k → value_at (first_pairs n) k ≡ None
  none_above zero k l = refl
  none_above (suc n) k l = at (none_above n k (omega arith)) (value_at pairs (place_of order n)) refl
    where
      at : value_at (first_pairs n) k ≡ None → (o : Option ℤ) → value_at pairs (place_of order n) ≡ o → value_at (first_pairs (suc n)) k ≡ None
      at before None e = ap (λ z. value_at z k) (one_more n None e ∙ append-nil (first_pairs n)) ∙ before
      at before (Some v) e = elim (eqb_tells k n) [
        | inl t ↦ absurd (omega (arith, l, t.1))
        | inr t ↦
            ap (λ z. value_at z k) (one_more n (Some v) e)
            ∙ value_at-push (first_pairs n) (pair_of n v) k
            ∙ ap (λ (b : Bool). or_else (value_at (first_pairs n) k) (cond b (Some v) None)) t.0
            ∙ ap (λ z. or_else z None) before
      ]

  -- a number below n is given what its place is
  given_below : (n k : ℕ) → k < n → value_at (first_pairs n) k ≡ value_at pairs (place_of order k)
  given_below zero k l = absurd (omega arith)
  given_below (suc n) k l = elim (eqb_tells k n) [
    | inl t ↦
        last (value_at pairs (place_of order n)) refl t.0 (none_above n k (omega (arith, t.1))) (ap (λ z. value_at pairs (place_of order z)) (sym t.1))
    | inr t ↦ earlier (value_at pairs (place_of order n)) refl t.0 (given_below n k (omega (arith, l, t.1)))
  ]
    where
      or_none : (o : Option ℤ) → or_else o None ≡ o
      or_none None = refl
      or_none (Some v) = refl

      last : (o : Option ℤ) → value_at pairs (place_of order n) ≡ o → (k == n) ≡ true → value_at (first_pairs n) k ≡ None
          → value_at pairs (place_of order n) ≡ value_at pairs (place_of order k) → value_at (first_pairs (suc n)) k ≡ value_at pairs (place_of order k)
      last None e same before here = ap (λ z. value_at z k) (one_more n None e ∙ append-nil (first_pairs n)) ∙ before ∙ sym e ∙ here
      last (Some v) e same before here =
          ap (λ z. value_at z k) (one_more n (Some v) e)
          ∙ value_at-push (first_pairs n) (pair_of n v) k
          ∙ ap (λ (b : Bool). or_else (value_at (first_pairs n) k) (cond b (Some v) None)) same
          ∙ ap (λ z. or_else z (Some v)) before
          ∙ sym e
          ∙ here

      earlier : (o : Option ℤ) → value_at pairs (place_of order n) ≡ o → (k == n) ≡ false
          → value_at (first_pairs n) k ≡ value_at pairs (place_of order k) → value_at (first_pairs (suc n)) k ≡ value_at pairs (place_of order k)
      earlier None e other before = ap (λ z. value_at z k) (one_more n None e ∙ append-nil (first_pairs n)) ∙ before
      earlier (Some v) e other before =
          ap (λ z. value_at z k) (one_more n (Some v) e)
          ∙ value_at-push (first_pairs n) (pair_of n v) k
          ∙ ap (λ (b : Bool). or_else (value_at (first_pairs n) k) (cond b (Some v) None)) other
          ∙ or_none (value_at (first_pairs n) k)
          ∙ before

  -- the pairs rise, and their last one is below n
  abbrev RisesBelow : ℕ → List Pair → Type 0
  RisesBelow n ps = IsRising ps × (0 < length ps → var_at ps (length ps - 1) < n)

  rising_below : (n : ℕ) → RisesBelow n (first_pairs n)
  rising_below zero = (λ k l. absurd (omega (arith, l)), λ l. absurd (omega (arith, l)))
  rising_below (suc n) = at (rising_below n) (value_at pairs (place_of order n)) refl
    where
      at : RisesBelow n (first_pairs n) → (o : Option ℤ) → value_at pairs (place_of order n) ≡ o → RisesBelow (suc n) (first_pairs (suc n))
      at h None e = subst (RisesBelow (suc n)) (sym (one_more n None e ∙ append-nil (first_pairs n))) (h.0, λ l. let low = h.1 l in omega (arith, low))
      at h (Some v) e =
          let end = last_var (first_pairs n) (pair_of n v) in
          subst (RisesBelow (suc n)) (sym (one_more n (Some v) e)) (IsRising-push (first_pairs n) (pair_of n v) h.0 h.1, λ l. omega (arith, end))

  pub first_rise : (n : ℕ) → IsRising (first_pairs n)
  first_rise n = (rising_below n).0

  pub rising_renumbered : IsRising (pairs_renumbered order pairs)
  rising_renumbered = first_rise (length order)

  -- a number is given what its place is
  pub given_renumbered : (k : ℕ) → k < length order → value_at (pairs_renumbered order pairs) k ≡ value_at pairs (place_of order k)
  given_renumbered k l = given_below (length order) k l

  -- each pair is that of a number whose place is given the value
  pub pair_from : (y : Pair) → In y (pairs_renumbered order pairs) → (y.var < length order) × In (pair_of (place_of order y.var) y.value) pairs
  pair_from y i =
      let found = In-filter_map (pair_at order pairs) y (below (length order)) i in
      at found.0 (In-below (length order) found.0 found.1) (value_at pairs (place_of order found.0)) refl found.2
    where
      at : (k : ℕ) → k < length order → (o : Option ℤ) → value_at pairs (place_of order k) ≡ o → pair_at order pairs k ≡ Some y → (y.var < length order) × In (pair_of (place_of order y.var) y.value) pairs
      at k l None e h = let no : None ≡ Some y = ap (λ (z : Option ℤ). option_map (pair_of k) z) (sym e) ∙ h in cc
      at k l (Some v) e h =
          let some : Some (pair_of k v) ≡ Some y = ap (λ (z : Option ℤ). option_map (pair_of k) z) (sym e) ∙ h in
          let is : pair_of k v ≡ y = cc in (
            subst (λ (z : Pair). z.var < length order) is l,
            subst (λ (z : Pair). In (pair_of (place_of order z.var) z.value) pairs) is (given_in pairs (place_of order k) v e),
          )

-- of no pairs there are none
pub none_renumbered : (order : List ℕ) → pairs_renumbered order [] ≡ []
none_renumbered order = all_none (below (length order))
  where
    all_none : (ks : List ℕ) → filter_map (pair_at order []) ks ≡ []
    all_none [] = refl
    all_none (k ∷ ks) = all_none ks
