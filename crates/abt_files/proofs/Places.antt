-- Places in lists of files.
use Rattle.std.proofs.Common.{◌≡◌, ◌≢◌, ℕ, zero, suc, List, [], ◌∷◌, ◌++◌, length, Some, slice_get, slice_set, refl, ap}

-- what is put behind stands last
pub get_last : {X : Type 0} (xs : List X) (x : X) → slice_get (xs ++ (x ∷ [])) (length xs) ≡ Some x
get_last [] x = refl
get_last (y ∷ xs) x = get_last xs x

-- what is replaced stands there
pub get_replaced : {X : Type 0} (xs : List X) (k : ℕ) (x y : X) → slice_get xs k ≡ Some x → slice_get (slice_set xs k y) k ≡ Some y
get_replaced [] zero x y e = absurd cc
get_replaced [] (suc k) x y e = absurd cc
get_replaced (z ∷ xs) zero x y e = refl
get_replaced (z ∷ xs) (suc k) x y e = get_replaced xs k x y e

-- and all else stays
pub get_beside : {X : Type 0} (xs : List X) (k other : ℕ) (y : X) → other ≢ k → slice_get (slice_set xs k y) other ≡ slice_get xs other
get_beside [] zero other y n = refl
get_beside [] (suc k) other y n = refl
get_beside (z ∷ xs) zero zero y n = absurd (n refl)
get_beside (z ∷ xs) zero (suc other) y n = refl
get_beside (z ∷ xs) (suc k) zero y n = refl
get_beside (z ∷ xs) (suc k) (suc other) y n = get_beside xs k other y (λ e. n (ap suc e))
