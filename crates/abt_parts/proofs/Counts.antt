-- How many elements of parts of a list pass a test.
use Rattle.std.proofs.Common.{◌≡◌, ℕ, suc, ◌+◌, ◌<◌, ◌≤◌, Bool, true, false, cond, ◌&&◌, ◌||◌, List, [], ◌∷◌, ◌++◌, length, take, drop, get_or, filter, refl, sym, ap, ◌∙◌, arith, add-one}
use Rattle.std.specs.List.{count_by, list_all, list_any}
use Rattle.std.proofs.lemmas.List.Sums.{sum_by-append, sum_by-cons, sum_by-take-drop}
use Rattle.std.proofs.Math.Seq.{drop-cons}

pub count_by-cons : {X : Type 0} (p : X → Bool) (x : X) (xs : List X) → count_by p (x ∷ xs) ≡ cond (p x) 1 0 + count_by p xs
count_by-cons p x xs = sum_by-cons (λ y. cond (p y) 1 0) x xs

pub count_by-append : {X : Type 0} (p : X → Bool) (xs ys : List X) → count_by p (xs ++ ys) ≡ count_by p xs + count_by p ys
count_by-append p xs ys = sum_by-append (λ x. cond (p x) 1 0) xs ys

-- a part that is filtered has no more
pub count_by-filter : {X : Type 0} (p q : X → Bool) (xs : List X) → count_by p (filter q xs) ≤ count_by p xs
count_by-filter p q [] = omega arith
count_by-filter {X} p q (x ∷ xs) = by_test (q x) (count_by-filter p q xs) where
  by_test : (b : Bool) → count_by p (filter q xs) ≤ count_by p xs → count_by p (cond b (x ∷ filter q xs) (filter q xs)) ≤ count_by p (x ∷ xs)
  by_test true fewer = omega (arith, count_by-cons p x (filter q xs), count_by-cons p x xs)
  by_test false fewer = omega (arith, count_by-cons p x xs)

-- the same where only the first elements are filtered
pub count_by-filter_take : {X : Type 0} (p q : X → Bool) (xs : List X) (k : ℕ) → count_by p (filter q (take k xs) ++ drop k xs) ≤ count_by p xs
count_by-filter_take p q xs k =
    omega (arith, count_by-append p (filter q (take k xs)) (drop k xs), count_by-filter p q (take k xs), sum_by-take-drop (λ x. cond (p x) 1 0) xs k)

-- where none passes, the test finds none
pub none_counted : {X : Type 0} (p : X → Bool) (xs : List X) → count_by p xs ≡ 0 → list_any p xs ≡ false
none_counted p [] e = refl
none_counted p (x ∷ xs) e = by_test (p x) (sym (count_by-cons p x xs) ∙ e) (none_counted p xs) where
  by_test : (b : Bool) → cond b 1 0 + count_by p xs ≡ 0 → (count_by p xs ≡ 0 → list_any p xs ≡ false) → (b || list_any p xs) ≡ false
  by_test true none later = absurd (omega arith)
  by_test false none later = later (omega arith)

-- the first k elements, the next one and the rest
pub split_at : {X : Type 0} (xs : List X) (k : ℕ) (x : X) → k < length xs → x ≡ get_or xs k x → drop k xs ≡ x ∷ drop (k + 1) xs
split_at {X} xs k x within is = rw add-one (drop-cons xs k x within ∙ ap (λ (y : X). y ∷ drop (suc k) xs) (sym is))

-- the converse
pub none_passed : {X : Type 0} (p : X → Bool) (xs : List X) → list_any p xs ≡ false → count_by p xs ≡ 0
none_passed p [] e = refl
none_passed p (x ∷ xs) e = count_by-cons p x xs ∙ by_test (p x) e (none_passed p xs) where
  by_test : (b : Bool) → (b || list_any p xs) ≡ false → (list_any p xs ≡ false → count_by p xs ≡ 0) → cond b 1 0 + count_by p xs ≡ 0
  by_test true clash later = absurd cc
  by_test false none later = omega (arith, later none)

-- where all pass, all stay
pub filter_all : {X : Type 0} (q : X → Bool) (xs : List X) → list_all q xs ≡ true → filter q xs ≡ xs
filter_all q [] e = refl
filter_all {X} q (x ∷ xs) e = by_test (q x) e (filter_all q xs) where
  by_test : (b : Bool) → (b && list_all q xs) ≡ true → (list_all q xs ≡ true → filter q xs ≡ xs) → cond b (x ∷ filter q xs) (filter q xs) ≡ x ∷ xs
  by_test true all later = ap (λ (z : List X). x ∷ z) (later all)
  by_test false clash later = absurd cc
