-- The values of a function below a number.
use Rattle.std.proofs.Common.{◌≡◌, ℕ, zero, suc, ◌<◌, ◌≤◌, [], ◌∷◌, ◌++◌, length, get_or, inl, inr, refl, sym, ap, ◌∙◌, arith}
use Rattle.std.proofs.lemmas.List.{get_or_past}
use Rattle.ngd_store.specs.Rests.{values_below}
use Rattle.ngd_store.proofs.Growing.{compared}
use Rattle.ngd_store.proofs.Growing.{index_before, index_last, length_more}

pub below_length : {A : Type 0} (f : ℕ → A) (n : ℕ) → length (values_below f n) ≡ n
below_length f zero = refl
below_length f (suc n) = length_more (values_below f n) (f n) ∙ ap suc (below_length f n)

pub below_at : {A : Type 0} (f : ℕ → A) (n k : ℕ) (d : A) → k < n → get_or (values_below f n) k d ≡ f k
below_at f zero k d l = absurd (omega (arith, l))
below_at f (suc n) k d l = elim (compared k n) [
  | inl less ↦ index_before (values_below f n) (f n) d k (let e = below_length f n in omega (arith, less, e)) ∙ below_at f n k d less
  | inr r ↦ elim r [
    | inl e ↦ ap (λ j. get_or (values_below f n ++ f n ∷ []) j d) (e ∙ sym (below_length f n)) ∙ (index_last (values_below f n) (f n) d ∙ ap f (sym e))
    | inr more ↦ absurd (omega (arith, l, more))
  ]
]

pub below_past : {A : Type 0} (f : ℕ → A) (n k : ℕ) (d : A) → n ≤ k → get_or (values_below f n) k d ≡ d
below_past f n k d l = get_or_past (values_below f n) k d (let e = below_length f n in omega (arith, l, e))

-- what agrees below the number has the same values there
pub below_same : {A : Type 0} (f g : ℕ → A) (n : ℕ) → ((k : ℕ) → k < n → f k ≡ g k) → values_below f n ≡ values_below g n
below_same f g zero h = refl
below_same f g (suc n) h =
    ap (λ xs. xs ++ f n ∷ []) (below_same f g n (λ k l. h k (omega (arith, l)))) ∙ ap (λ x. values_below g n ++ x ∷ []) (h n (omega arith))
