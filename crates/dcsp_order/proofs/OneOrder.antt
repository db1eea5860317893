-- One order by a rule.
use Rattle.std.proofs.Common.{◌≡◌, ℕ, zero, suc, ◌<◌, ◌≤◌, List, [], ◌∷◌, ◌++◌, length, take, get_or, inl, inr, refl, sym, ap, subst, ◌∙◌, arith, add-one}
use Rattle.std.proofs.lemmas.Bool.{cases_lt}
use Rattle.std.proofs.lemmas.Bool.Decides.{eqb_tells}
use Rattle.std.proofs.lemmas.List.{take_all, take_more}
use Rattle.dcsp_defs.specs.Words.{In}
use Rattle.dcsp_defs.specs.Csp.{Csp, count}
use Rattle.dcsp_order.specs.Orders.{number_at, place_of}
use Rattle.dcsp_order.specs.ByRule.{GreaterOr, HasGreaterDegree, IsBefore, IsOrderBy, OneOrderByRule}
use Rattle.dcsp_order.specs.declared.by_rule.OrderRule.{OrderRule}
use Rattle.dcsp_order.specs.declared.by_rule.OrderRule.TheVariants.{Degree, Links, Reverse}
use Rattle.dcsp_order.proofs.Places.{item_in, low_place, number_back}
use Rattle.dcsp_order.proofs.Placing.{not_before}

not_both : (a b : ℕ) (X Y : Type 0) → (X → Y → ⊥) → GreaterOr a b X → GreaterOr b a Y → ⊥
not_both a b X Y apart (inl l) (inl m) = absurd (omega (arith, l, m))
not_both a b X Y apart (inl l) (inr m) = absurd (let e = m.0 in omega (arith, l, e))
not_both a b X Y apart (inr l) (inl m) = absurd (let e = l.0 in omega (arith, m, e))
not_both a b X Y apart (inr l) (inr m) = apart l.1 m.1

not_both_lower : (i k : ℕ) → i < k → k < i → ⊥
not_both_lower i k l m = absurd (omega (arith, l, m))

one_first : (rule : OrderRule) (p : Csp) (placed : List ℕ) (i k : ℕ) → IsBefore rule p placed i k → IsBefore rule p placed k i → ⊥
one_first Degree p placed i k a b = not_both _ _ (i < k) (k < i) (not_both_lower i k) a b
one_first Links p placed i k a b = not_both _ _ (HasGreaterDegree p i k) (HasGreaterDegree p k i) (λ c d. not_both _ _ (i < k) (k < i) (not_both_lower i k) c d) a b
one_first Reverse p placed i k a b = not_both_lower k i a b

item_taken : (xs : List ℕ) (m b d : ℕ) → b < m → b < length xs → In (get_or xs b d) (take m xs)
item_taken xs zero b d l within = absurd (omega (arith, l))
item_taken [] (suc m) b d l within = absurd (omega (arith, within))
item_taken (x ∷ xs) (suc m) zero d l within = inl refl
item_taken (x ∷ xs) (suc m) (suc b) d l within = inr (item_taken xs m b d (omega (arith, l)) (omega (arith, within)))

module _ (rule : OrderRule) (p : Csp) where
  -- where both begin alike and differ then, the one number stands later in the other order
  later : (a b : List ℕ) → IsOrderBy rule p a → IsOrderBy rule p b → (k : ℕ) → k < count p → take k a ≡ take k b → (get_or a k 0 ≡ get_or b k 0 → ⊥)
      → (q : ℕ) × (k < q) × (q < count p) × (get_or b q 0 ≡ get_or a k 0)
  later a b ia ib k l same differ =
      let ia_whole = ia.is_order.whole in
      let ib_whole = ib.is_order.whole in
      let x = get_or a k 0 in
      let low : x < count p = ia.is_order.inside x (item_in a k 0 (omega (arith, l, ia_whole))) in
      let q = place_of b x in
      let ql = low_place (count p) b ib.is_order x low in
      let there = number_back (count p) b ib.is_order x 0 low in
      elim (cases_lt k q) [
        | inl g ↦ (q, g, ql, there)
        | inr h ↦ elim (eqb_tells q k) [
          | inl t ↦ absurd (differ (sym (ap (λ z. get_or b z 0) (sym t.1) ∙ there)))
          | inr t ↦
              let other = t.1 in
              let early : q < k = omega (arith, h, other) in
              let among = item_taken b k q 0 early (omega (arith, ql, ib_whole)) in
              absurd (not_before a k k 0 ia.is_order.once (omega arith) (omega (arith, l, ia_whole)) (subst (λ (z : ℕ). In z (take k a)) there (subst (λ (z : List ℕ). In (get_or b q 0) z) (sym same) among)))
        ]
      ]

  get_default : (xs : List ℕ) (b d e : ℕ) → b < length xs → get_or xs b d ≡ get_or xs b e
  get_default [] b d e l = absurd (omega (arith, l))
  get_default (x ∷ xs) zero d e l = refl
  get_default (x ∷ xs) (suc b) d e l = get_default xs b d e (omega (arith, l))

  -- at the first difference each would go before the other
  before : (a b : List ℕ) → IsOrderBy rule p a → IsOrderBy rule p b → (k : ℕ) → k < count p → take k a ≡ take k b → (get_or a k 0 ≡ get_or b k 0 → ⊥)
      → IsBefore rule p (take k b) (get_or b k 0) (get_or a k 0)
  before a b ia ib k l same differ =
      let ib_whole = ib.is_order.whole in
      let at = later a b ia ib k l same differ in
      let is = ib.first k at.0 at.1 at.2 in
      subst (λ (z : ℕ). IsBefore rule p (take k b) z (get_or a k 0)) (get_default b k k 0 (omega (arith, l, ib_whole)))
      (subst (λ (z : ℕ). IsBefore rule p (take k b) (number_at b k) z) (get_default b at.0 at.0 0 (let ql = at.2 in omega (arith, ql, ib_whole)) ∙ at.3) is)

  alike : (a b : List ℕ) → IsOrderBy rule p a → IsOrderBy rule p b → (k : ℕ) → k ≤ count p → take k a ≡ take k b
  alike a b ia ib zero l = refl
  alike a b ia ib (suc k) l =
      let same = alike a b ia ib k (omega (arith, l)) in
      let ia_whole = ia.is_order.whole in
      let ib_whole = ib.is_order.whole in
      let one : get_or a k 0 ≡ get_or b k 0 = elim (eqb_tells (get_or a k 0) (get_or b k 0)) [
        | inl t ↦ t.1
        | inr t ↦
            let u = before a b ia ib k (omega (arith, l)) same t.1 in
            let v = before b a ib ia k (omega (arith, l)) (sym same) (λ e. t.1 (sym e)) in
            absurd (one_first rule p (take k b) (get_or b k 0) (get_or a k 0) u (subst (λ (z : List ℕ). IsBefore rule p z (get_or a k 0) (get_or b k 0)) same v))
      ]
      in
      ap (λ z. take z a) (sym (add-one k))
      ∙ take_more a k 0 (omega (arith, l, ia_whole))
      ∙ ap (λ z. z ++ get_or a k 0 ∷ []) same
      ∙ ap (λ z. take k b ++ z ∷ []) one
      ∙ sym (take_more b k 0 (omega (arith, l, ib_whole)))
      ∙ ap (λ z. take z b) (add-one k)

pub one_order : OneOrderByRule
one_order rule p a b ia ib =
    let ia_whole = ia.is_order.whole in
    let ib_whole = ib.is_order.whole in
    sym (take_all (count p) a (omega (arith, ia_whole))) ∙ alike rule p a b ia ib (count p) (omega arith) ∙ take_all (count p) b (omega (arith, ib_whole))
