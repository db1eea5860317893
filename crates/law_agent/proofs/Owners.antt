-- The owner of a constraint is the greatest variable of its scope.
use Rattle.std.proofs.Common.{◌≡◌, ℕ, suc, ◌-◌, ◌≤◌, true, inl, inr, List, [], ◌∷◌, length, slice_get, Option, Some, None, refl, ap, ◌∙◌, arith}
use Rattle.std.proofs.lemmas.Bool.{eqb-true, eq-eqb}
use Rattle.dcsp_defs.specs.Words.{In, IsRising, is_number}
use Rattle.dcsp_defs.specs.Csp.{Csp, Constraint, IsCsp, owns, owner}
use Rattle.dcsp_defs.proofs.Lists.{get-In}

pub is_number-is : (o : Option ℕ) (k : ℕ) → is_number o k ≡ true → o ≡ Some k
is_number-is None k h = cc
is_number-is (Some n) k h = ap Some (eqb-true n k h)

-- nothing in a rising list is above its last
last-greatest : (xs : List ℕ) (i k : ℕ) → IsRising xs → slice_get xs (length xs - 1) ≡ Some i → In k xs → k ≤ i
last-greatest [] i k r e h = absurd h
last-greatest (x ∷ []) i k r e (inl f) = let g : x ≡ i = cc in omega arith
last-greatest (x ∷ []) i k r e (inr f) = absurd f
last-greatest (x ∷ y ∷ ys) i k r e h =
    let n : length (x ∷ y ∷ ys) - 1 ≡ suc (length (y ∷ ys) - 1) = omega arith in
    let rest : slice_get (y ∷ ys) (length (y ∷ ys) - 1) ≡ Some i = rw n at e in
    elim h [
      | inl f ↦ let l = r.0 y (inl refl) in let m = last-greatest (y ∷ ys) i y r.1 rest (inl refl) in omega arith
      | inr f ↦ last-greatest (y ∷ ys) i k r.1 rest f
    ]

pub owner_in : (i : ℕ) (c : Constraint) → owns i c ≡ true → In i c.scope
owner_in i c h = get-In c.scope (length c.scope - 1) i (is_number-is (owner c) i h)

pub owner_greatest : (p : Csp) → IsCsp p → (i k : ℕ) (c : Constraint) → In c p.constraints → owns i c ≡ true → In k c.scope → k ≤ i
owner_greatest p ok i k c here h u = last-greatest c.scope i k (ok.constraints c here).rising (is_number-is (owner c) i h) u

last-there : (x : ℕ) (xs : List ℕ) → (i : ℕ) × (slice_get (x ∷ xs) (length (x ∷ xs) - 1) ≡ Some i)
last-there x [] = (x, refl)
last-there x (y ∷ ys) =
    let r = last-there y ys in
    let n : length (x ∷ y ∷ ys) - 1 ≡ suc (length (y ∷ ys) - 1) = omega arith in
    (r.0, rw n r.1)

-- a constraint with a variable has an owner
pub has_owner : (c : Constraint) (k : ℕ) (ks : List ℕ) → c.scope ≡ k ∷ ks → (i : ℕ) × (owns i c ≡ true)
has_owner c k ks e =
    let r = last-there k ks in
    let o : owner c ≡ Some r.0 = ap (λ (scope : List ℕ). slice_get scope (length scope - 1)) e ∙ r.1 in
    (r.0, ap (λ (z : Option ℕ). is_number z r.0) o ∙ eq-eqb r.0 r.0 refl)
