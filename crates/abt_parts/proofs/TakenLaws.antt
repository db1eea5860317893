-- Steps of the values of the items' lowest pairs.
use Rattle.std.proofs.Common.{◌≡◌, ℕ, ◌+◌, ◌-◌, ◌<◌, ◌≤◌, Bool, true, false, cond, not, ◌&&◌, ◌||◌, List, [], ◌∷◌, ◌++◌, length, take, drop, get_or, filter, refl, sym, ap, ◌∙◌, arith, append_assoc}
use Rattle.std.specs.List.{count_by, list_any}
use Rattle.std.proofs.lemmas.List.{take_more, take_all, append-nil, get_or_default}
use Rattle.std.proofs.lemmas.List.Elements.{filter-append}
use Rattle.std.proofs.lemmas.List.Folds.{list_any-append}
use Rattle.abt_parts.proofs.Counts.{count_by-cons, count_by-append, count_by-filter_take, none_counted, split_at}

-- where at most one element passes, leaving it out leaves none
pub without_one : {X : Type 0} (p : X → Bool) (xs ys : List X) (x : X) → count_by p (xs ++ x ∷ ys) ≤ 1 → (list_any p (xs ++ x ∷ ys) && not (p x)) ≡ list_any p (xs ++ ys)
without_one p xs ys x once = ap (λ b. b && not (p x)) (list_any-append p xs (x ∷ ys)) ∙ by_test (p x) refl ∙ sym (list_any-append p xs ys) where
  total : count_by p xs + (cond (p x) 1 0 + count_by p ys) ≤ 1
  total = omega (arith, count_by-append p xs (x ∷ ys), count_by-cons p x ys)

  and_true : (b : Bool) → (b && true) ≡ b
  and_true true = refl
  and_true false = refl

  and_false : (b : Bool) → (b && false) ≡ false
  and_false true = refl
  and_false false = refl

  by_test : (b : Bool) → p x ≡ b → ((list_any p xs || (b || list_any p ys)) && not b) ≡ (list_any p xs || list_any p ys)
  by_test true t =
      let one : ◌≡◌ {A = ℕ} (cond (p x) 1 0) 1 = ap (λ z. cond z 1 0) t in
      let none = none_counted p xs (omega (arith, total)) in
      let nor = none_counted p ys (omega (arith, total)) in
      and_false (list_any p xs || true) ∙ sym (ap (λ z. z || list_any p ys) none ∙ nor)
  by_test false t = and_true (list_any p xs || list_any p ys)

module _ {X : Type 0} (q : X → Bool) (xs : List X) (k : ℕ) (x : X) (within : k < length xs) (is : x ≡ get_or xs k x) where
  filtered : filter q (take (k + 1) xs) ≡ filter q (take k xs) ++ cond (q x) (x ∷ []) []
  filtered = ap (filter q) (take_more xs k x within ∙ ap (λ (y : X). take k xs ++ y ∷ []) (sym is)) ∙ filter-append q (take k xs) (x ∷ [])

  -- an element that passes stays
  pub stays : q x ≡ true → filter q (take (k + 1) xs) ++ drop (k + 1) xs ≡ filter q (take k xs) ++ drop k xs
  stays t =
      ap (λ z. z ++ drop (k + 1) xs) (filtered ∙ ap (λ b. filter q (take k xs) ++ cond b (x ∷ []) []) t)
      ∙ append_assoc (filter q (take k xs)) (x ∷ []) (drop (k + 1) xs)
      ∙ ap (λ z. filter q (take k xs) ++ z) (sym (split_at xs k x within is))

  -- one that does not is left out
  pub leaves : (p : X → Bool) → count_by p xs ≤ 1 → q x ≡ false → (list_any p (filter q (take k xs) ++ drop k xs) && not (p x)) ≡ list_any p (filter q (take (k + 1) xs) ++ drop (k + 1) xs)
  leaves p once f =
      let before : filter q (take k xs) ++ drop k xs ≡ filter q (take k xs) ++ x ∷ drop (k + 1) xs = ap (λ z. filter q (take k xs) ++ z) (split_at xs k x within is) in
      let after : filter q (take k xs) ++ drop (k + 1) xs ≡ filter q (take (k + 1) xs) ++ drop (k + 1) xs = ap (λ z. z ++ drop (k + 1) xs) (sym (filtered ∙ ap (λ b. filter q (take k xs) ++ cond b (x ∷ []) []) f ∙ append-nil (filter q (take k xs)))) in
      let fewer = count_by-filter_take p q xs k in
      ap (λ z. list_any p z && not (p x)) before
      ∙ without_one p (filter q (take k xs)) (drop (k + 1) xs) x (omega (arith, fewer, ap (count_by p) before, once))
      ∙ ap (list_any p) after

-- the last element is left out where it does not pass
pub last_leaves : {X : Type 0} (q : X → Bool) (xs : List X) → 0 < length xs → ((x : X) → q (get_or xs (length xs - 1) x) ≡ false) → filter q (take (length xs - 1) xs) ≡ filter q xs
last_leaves q [] some unfit = absurd (omega arith)
last_leaves {X} q (y ∷ ys) some unfit =
    let xs = y ∷ ys in
    let k = length xs - 1 in
    let x = get_or xs k y in
    let within : k < length xs = omega (arith, some) in
    let size : length xs ≤ k + 1 = omega arith in
    let all : filter q (take (k + 1) xs) ≡ filter q (take k xs) ++ cond (q x) (x ∷ []) [] = filtered q xs k x within (get_or_default xs k y x within) in
    sym (ap (filter q) (sym (take_all (k + 1) xs size)) ∙ all ∙ ap (λ b. filter q (take k xs) ++ cond b (x ∷ []) []) (unfit y) ∙ append-nil (filter q (take k xs)))
