-- The values of a domain lie between the least and the greatest.
use Rattle.std.proofs.Common.{◌≡◌, ℕ, zero, suc, ◌-◌, ◌<◌, ◌≤◌, ◌≤ℤ◌, ◌<ℤ◌, ℤ, pos, negsuc, List, [], ◌∷◌, length, Some, slice_get, FitsSigned, sym, subst, inl, inr, arith}
use Rattle.std.specs.Prelude.{slice_index_or}
use Rattle.std.specs.Int.{w64}
use Rattle.std.proofs.Math.Nat.{eq-or-lt_of_le}
use Rattle.std.proofs.lemmas.Int.{ints}
use Rattle.dcsp_domain.specs.Sets.{IsRising}
use Rattle.dcsp_defs.specs.Words.{In}

-- what stands between two numbers of 64 bits has them too
between : (a v b : ℤ) → FitsSigned w64 a → FitsSigned w64 b → a ≤ℤ v → v ≤ℤ b → FitsSigned w64 v
between a (pos n) (pos m) f g low high = omega (arith, ints)
between a (pos n) (negsuc m) f g low high = absurd (omega (arith, ints))
between (pos k) (negsuc n) b f g low high = absurd (omega (arith, ints))
between (negsuc k) (negsuc n) b f g low high = omega (arith, ints)

-- the place of an item
place_of : (v d : ℤ) (list : List ℤ) → In v list → (k : ℕ) × (k < length list) × (slice_index_or list k d ≡ v)
place_of v d [] h = absurd h
place_of v d (x ∷ xs) (inl e) = (0, omega arith, sym e)
place_of v d (x ∷ xs) (inr h) = let p = place_of v d xs h in let l = p.1 in (suc p.0, omega arith, p.2)

item_at : (list : List ℤ) (k : ℕ) (x d : ℤ) → slice_get list k ≡ Some x → slice_index_or list k d ≡ x
item_at [] k x d e = absurd cc
item_at (y ∷ ys) zero x d e = cc
item_at (y ∷ ys) (suc k) x d e = item_at ys k x d e

-- where the ends fit, all fit
pub ends_fit : (list : List ℤ) (least greatest : ℤ) → IsRising list → slice_get list 0 ≡ Some least → slice_get list (length list - 1) ≡ Some greatest
    → FitsSigned w64 least → FitsSigned w64 greatest → (v : ℤ) → In v list → FitsSigned w64 v
ends_fit list least greatest rises first last low high v h =
    let p = place_of v v list h in
    between least v greatest low high (from p.0 p.1 p.2) (to p.0 p.1 p.2)
  where
    from : (k : ℕ) → k < length list → slice_index_or list k v ≡ v → least ≤ℤ v
    from zero l e = let x = item_at list 0 least v first in subst (λ z. z ≤ℤ v) x (subst (λ z. slice_index_or list 0 v ≤ℤ z) e (omega (arith, ints)))
    from (suc k) l e =
        let x = item_at list 0 least v first in
        let up = rises 0 (suc k) v (omega arith) l in
        let less : least <ℤ v = subst (λ z. z <ℤ v) x (subst (λ z. slice_index_or list 0 v <ℤ z) e up) in
        omega (arith, ints)

    to : (k : ℕ) → k < length list → slice_index_or list k v ≡ v → v ≤ℤ greatest
    to k l e =
        let y = item_at list (length list - 1) greatest v last in
        let under : k ≤ length list - 1 = omega arith in
        elim (eq-or-lt_of_le under) [
          | inl same ↦ subst (λ z. v ≤ℤ z) y (subst (λ i. v ≤ℤ slice_index_or list i v) same (subst (λ z. v ≤ℤ z) (sym e) (omega (arith, ints))))
          | inr lt ↦
              let up = rises k (length list - 1) v lt (omega arith) in
              let less : v <ℤ greatest = subst (λ z. v <ℤ z) y (subst (λ z. z <ℤ slice_index_or list (length list - 1) v) e up) in
              omega (arith, ints)
        ]
