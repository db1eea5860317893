-- Lemmas on look-ups in rising lists of pairs.
use Rattle.std.proofs.Common.{◌≡◌, ◌≢◌, ℕ, zero, suc, ◌+◌, ◌-◌, ◌<◌, ◌≤◌, true, false, cond, eqb, List, [], ◌∷◌, ◌++◌, length, get_or, drop, Some, None, refl, ◌∙◌, arith, add-one, inl, inr}
use Rattle.std.specs.Prelude.{ℤ}
use Rattle.std.proofs.lemmas.List.{at_drop_more, at_drop_all}
use Rattle.std.proofs.lemmas.Grind.{common_steps}
use Rattle.std.proofs.lemmas.Bool.Decides.{nat_tests}
use Rattle.std.proofs.lemmas.Bool.{cases_lt, cases_eq}
use Rattle.dcsp_defs.specs.declared.nogood.Pair.{Pair}
use Rattle.dcsp_defs.specs.Pairs.{no_pair, var_at, IsRising, value_at, or_else}

-- one pair further on
pub value_at-drop : (ps : List Pair) (i v : ℕ) (d : Pair) → i < length ps → value_at (drop i ps) v ≡ cond (eqb v (get_or ps i d).var) (Some (get_or ps i d).value) (value_at (drop (i + 1) ps) v)
value_at-drop ps i v d h = at_drop_more (λ l. value_at l v) ps i d h

pub value_at-past : (ps : List Pair) (i v : ℕ) → length ps ≤ i → value_at (drop i ps) v ≡ None
value_at-past ps i v h = at_drop_all (λ l. value_at l v) ps i h

-- a pair at the end
pub value_at-push : (ps : List Pair) (p : Pair) (v : ℕ) → value_at (ps ++ p ∷ []) v ≡ or_else (value_at ps v) (cond (eqb v p.var) (Some p.value) None)
value_at-push [] p v = refl
value_at-push (q ∷ qs) p v =
    elim (eqb v q.var) as (λ t. cond t (Some q.value) (value_at (qs ++ p ∷ []) v) ≡ or_else (cond t (Some q.value) (value_at qs v)) (cond (eqb v p.var) (Some p.value) None)) [ true ↦ refl | false ↦ value_at-push qs p v ]

-- a variable below the first of what is left has no value there
above_step : (ps : List Pair) (i v : ℕ) → i < length ps → v < var_at ps i → value_at (drop (i + 1) ps) v ≡ None → value_at (drop i ps) v ≡ None
above_step ps i v h below rest = let e = value_at-drop ps i v no_pair h in grind (arith, nat_tests)

pub value_at-above : (n : ℕ) (ps : List Pair) (i v : ℕ) → length ps ≤ n + i → IsRising ps → (i < length ps → v < var_at ps i) → value_at (drop i ps) v ≡ None
value_at-above zero ps i v short up below = value_at-past ps i v (omega arith)
value_at-above (suc n) ps i v short up below =
    elim (cases_lt i (length ps)) [
      | inl h ↦ above_step ps i v h (below h) (value_at-above n ps (i + 1) v (omega arith) up (λ h2. omega (arith, up i h2, below h)))
      | inr h ↦ value_at-past ps i v h
    ]

pub value_at-drop_here : (ps : List Pair) (i : ℕ) → i < length ps → value_at (drop i ps) (var_at ps i) ≡ Some (get_or ps i no_pair).value
value_at-drop_here ps i h = let e = value_at-drop ps i (var_at ps i) no_pair h in grind (arith, nat_tests)

pub value_at-drop_other : (ps : List Pair) (i v : ℕ) → i < length ps → var_at ps i ≢ v → value_at (drop i ps) v ≡ value_at (drop (i + 1) ps) v
value_at-drop_other ps i v h ne = let e = value_at-drop ps i v no_pair h in grind (arith, nat_tests)

-- a value of what is left is a value of the whole list
pub value_at-from_drop : (i : ℕ) (ps : List Pair) (v : ℕ) (a : ℤ) → IsRising ps → i ≤ length ps → value_at (drop i ps) v ≡ Some a → value_at ps v ≡ Some a
value_at-from_drop zero ps v a up h e = e
value_at-from_drop (suc i) ps v a up h e =
    let within : i < length ps = omega arith in
    let e2 : value_at (drop (i + 1) ps) v ≡ Some a = rw add-one e in
    elim (cases_eq (var_at ps i) v) [
      | inl same ↦ let none : value_at (drop (i + 1) ps) v ≡ None = value_at-above (length ps) ps (i + 1) v (omega arith) up (λ h2. omega (arith, up i h2, same)) in cc
      | inr ne ↦ value_at-from_drop i ps v a up (omega arith) (value_at-drop_other ps i v within ne ∙ e2)
    ]

-- a push above the last one keeps the order
pub IsRising-push : (ps : List Pair) (p : Pair) → IsRising ps → (0 < length ps → var_at ps (length ps - 1) < p.var) → IsRising (ps ++ p ∷ [])
IsRising-push ps p up above k h = grind (arith, common_steps, up k, above)

-- the last pair after a push
pub last_var : (ps : List Pair) (p : Pair) → var_at (ps ++ p ∷ []) (length (ps ++ p ∷ []) - 1) ≡ p.var
last_var ps p = grind (arith, common_steps)
