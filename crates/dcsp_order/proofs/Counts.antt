-- Sums over an order are those over the numbers themselves.
use Rattle.std.proofs.Common.{◌≡◌, ℕ, zero, suc, ◌+◌, ◌≤◌, List, [], ◌∷◌, map, take, length, get_or, refl, sym, ap, ◌∙◌, inl, inr, subst, arith, add-one, take_all}
use Rattle.std.specs.Prelude.{sum_by}
use Rattle.std.proofs.lemmas.Bool.Decides.{eqb_tells}
use Rattle.std.proofs.lemmas.List.Sums.{sum_by-cons, sum_by_more}
use Rattle.dcsp_defs.specs.Words.{In, sum_below}
use Rattle.dcsp_order.specs.Orders.{IsDistinct, IsOrder}
use Rattle.dcsp_order.proofs.Places.{without, from_without, kept_first, left_first, distinct_without, without_absent, absent_same, all_stand}

pub sum_map : {X Y : Type 0} → (f : Y → ℕ) (g : X → ℕ) (h : X → Y) (xs : List X) → ((x : X) → In x xs → f (h x) ≡ g x) → sum_by f (map h xs) ≡ sum_by g xs
sum_map f g h [] same = refl
sum_map f g h (x ∷ xs) same =
    let here = same x (inl refl) in
    let rest = sum_map f g h xs (λ y i. same y (inr i)) in
    let a = sum_by-cons f (h x) (map h xs) in
    let b = sum_by-cons g x xs in
    omega (arith, here, rest, a, b)

first_sum : {X : Type 0} → (f : X → ℕ) (xs : List X) (d : X) (n : ℕ) → n ≤ length xs → sum_by f (take n xs) ≡ sum_below (λ k. f (get_or xs k d)) n
first_sum f xs d zero l = refl
first_sum f xs d (suc n) l =
    ap (λ z. sum_by f (take z xs)) (sym (add-one n))
    ∙ sum_by_more f xs n d (omega arith)
    ∙ ap (λ z. z + f (get_or xs n d)) (first_sum f xs d n (omega arith))

-- the sum over a list is that over its places
pub sum_places : {X : Type 0} → (f : X → ℕ) (xs : List X) (d : X) → sum_by f xs ≡ sum_below (λ k. f (get_or xs k d)) (length xs)
sum_places f xs d = ap (sum_by f) (sym (take_all (length xs) xs (omega arith))) ∙ first_sum f xs d (length xs) (omega arith)

-- a number that stands in the list adds what it has
sum_without : (f : ℕ → ℕ) (n : ℕ) (order : List ℕ) → IsDistinct order → In n order → sum_by f order ≡ f n + sum_by f (without n order)
sum_without f n [] once i = absurd i
sum_without f n (first ∷ order) once i = elim (eqb_tells first n) [
  | inl t ↦
      let left = left_first n first order t.0 in
      let absent = absent_same n order (λ j. once.0 (subst (λ (z : ℕ). In z order) (sym t.1) j)) in
      sum_by-cons f first order ∙ ap (λ z. f z + sum_by f order) t.1 ∙ ap (λ z. f n + sum_by f z) (sym (left ∙ absent))
  | inr t ↦
      let there : In n order = elim i [ inl same ↦ absurd (t.1 (sym same)) | inr j ↦ j ] in
      let kept = kept_first n first order t.0 in
      let rest = sum_without f n order once.1 there in
      let a = sum_by-cons f first order in
      let b = sum_by-cons f first (without n order) in
      let c : sum_by f (without n (first ∷ order)) ≡ sum_by f (first ∷ without n order) = ap (sum_by f) kept in
      omega (arith, rest, a, b, c)
]

pub length_without : (n : ℕ) (order : List ℕ) → IsDistinct order → In n order → length order ≡ suc (length (without n order))
length_without n [] once i = absurd i
length_without n (first ∷ order) once i = elim (eqb_tells first n) [
  | inl t ↦
      let left = ap length (left_first n first order t.0) in
      let all = without_absent n order (λ j. once.0 (subst (λ (z : ℕ). In z order) (sym t.1) j)) in
      omega (arith, left, all)
  | inr t ↦
      let there : In n order = elim i [ inl same ↦ absurd (t.1 (sym same)) | inr j ↦ j ] in
      let kept = ap length (kept_first n first order t.0) in
      let rest = length_without n order once.1 there in
      omega (arith, kept, rest)
]

-- the sum over an order of n numbers is that below n
pub sum_order : (f : ℕ → ℕ) (n : ℕ) (order : List ℕ) → IsOrder n order → sum_by f order ≡ sum_below f n
sum_order f zero [] good = refl
sum_order f zero (first ∷ order) good = absurd (omega (arith, good.whole))
sum_order f (suc n) order good =
    let there = all_stand (suc n) order good n (omega arith) in
    let less = length_without n order good.once there in
    let whole = good.whole in
    let rest : IsOrder n (without n order) = record {
      whole = omega (arith, less, whole);
      inside = λ k i. let from = from_without n k order i in let low = good.inside k from.0 in let other = from.1 in omega (arith, low, other);
      once = distinct_without n order good.once;
    }
    in
    sum_without f n order good.once there ∙ ap (λ z. f n + z) (sum_order f n (without n order) rest) ∙ omega arith
