-- Lists with one more, and numbers compared.
use Rattle.std.proofs.Common.{◌≡◌, ◌<◌, ◌⊎◌, ℕ, zero, suc, List, [], ◌∷◌, ◌++◌, length, inl, inr, refl, ap, arith}
use Rattle.std.specs.Prelude.{slice_index_or}

-- of two numbers one is less, or they are equal
pub compared : (n m : ℕ) → (n < m) ⊎ ((n ≡ m) ⊎ (m < n))
compared zero zero = inr (inl refl)
compared zero (suc m) = inl (omega arith)
compared (suc n) zero = inr (inr (omega arith))
compared (suc n) (suc m) = elim (compared n m) [
  | inl l ↦ inl (omega arith)
  | inr r ↦ elim r [
    | inl e ↦ inr (inl (ap suc e))
    | inr l ↦ inr (inr (omega arith))
  ]
]

-- a look-up in a list with one more
pub index_before : {X : Type 0} (xs : List X) (x d : X) (k : ℕ) → k < length xs → slice_index_or (xs ++ x ∷ []) k d ≡ slice_index_or xs k d
index_before [] x d k l = absurd (omega arith)
index_before (y ∷ ys) x d zero l = refl
index_before (y ∷ ys) x d (suc k) l = index_before ys x d k (omega arith)

pub index_last : {X : Type 0} (xs : List X) (x d : X) → slice_index_or (xs ++ x ∷ []) (length xs) d ≡ x
index_last [] x d = refl
index_last (y ∷ ys) x d = index_last ys x d

pub length_more : {X : Type 0} (xs : List X) (x : X) → length (xs ++ x ∷ []) ≡ suc (length xs)
length_more [] x = refl
length_more (y ∷ ys) x = ap suc (length_more ys x)
