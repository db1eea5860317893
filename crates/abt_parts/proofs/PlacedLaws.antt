-- The place of the first element that passes a test.
use Rattle.std.proofs.Common.{◌≡◌, ℕ, ◌+◌, ◌<◌, ◌≤◌, Bool, true, false, cond, ◌||◌, ◌&&◌, List, [], ◌∷◌, ◌++◌, length, take, drop, get_or, Option, Some, None, refl, sym, ap, ◌∙◌, arith, rules}
use Rattle.std.specs.Prelude.{is_some}
use Rattle.std.specs.List.{count_by, list_any, position_from}
use Rattle.std.proofs.lemmas.List.{take_more, take-append-drop}
use Rattle.std.proofs.lemmas.List.Folds.{list_any_at, list_any-append}
use Rattle.std.proofs.lemmas.List.Sums.{sum_by_more_le}
use Rattle.abt_parts.proofs.Counts.{count_by-append, count_by-cons, none_counted}

pub some_place : {X : Type 0} (p : X → Bool) (i : ℕ) (xs : List X) → is_some (position_from p i xs) ≡ list_any p xs
some_place p i [] = refl
some_place p i (x ∷ xs) = by_test (p x) (some_place p (i + 1) xs) where
  by_test : (b : Bool) → is_some (position_from p (i + 1) xs) ≡ list_any p xs → is_some (cond b (Some i) (position_from p (i + 1) xs)) ≡ (b || list_any p xs)
  by_test true later = refl
  by_test false later = later

passes_last : {X : Type 0} (p : X → Bool) (i : ℕ) (xs : List X) (x : X) → list_any p xs ≡ false → p x ≡ true → position_from p i (xs ++ x ∷ []) ≡ Some (i + length xs)
passes_last p i [] x none t = let here : i ≡ i + 0 = omega arith in ap (λ b. cond b (Some i) None) t ∙ ap (λ (n : ℕ). Some n) here
passes_last {X} p i (y ∷ ys) x none t = by_test (p y) none (passes_last p (i + 1) ys x) where
  by_test : (b : Bool) → (b || list_any p ys) ≡ false → (list_any p ys ≡ false → p x ≡ true → position_from p (i + 1) (ys ++ x ∷ []) ≡ Some (i + 1 + length ys))
      → cond b (Some i) (position_from p (i + 1) (ys ++ x ∷ [])) ≡ Some (i + length (y ∷ ys))
  by_test true clash later = absurd cc
  by_test false rest later = let all : i + 1 + length ys ≡ i + length (y ∷ ys) = omega arith in later rest t ∙ ap (λ (n : ℕ). Some n) all

fails_last : {X : Type 0} (p : X → Bool) (i : ℕ) (xs : List X) (x : X) → p x ≡ false → position_from p i (xs ++ x ∷ []) ≡ position_from p i xs
fails_last p i [] x f = ap (λ b. cond b (Some i) None) f
fails_last p i (y ∷ ys) x f = ap (λ z. cond (p y) (Some i) z) (fails_last p (i + 1) ys x f)

or_nothing : (b : Bool) → (b || (false || false)) ≡ true → b ≡ true
or_nothing true e = refl
or_nothing false e = absurd cc

-- one element more, which passes alone if it does
pub place_pushed : {X : Type 0} (p : X → Bool) (xs : List X) (x : X) (n : ℕ) → n ≡ length xs → (p x ≡ true → list_any p xs ≡ false) → cond (p x) (Some n) (position_from p 0 xs) ≡ position_from p 0 (xs ++ x ∷ [])
place_pushed p xs x n e alone = by_test (p x) refl where
  by_test : (b : Bool) → p x ≡ b → cond b (Some n) (position_from p 0 xs) ≡ position_from p 0 (xs ++ x ∷ [])
  by_test true t = let size : n ≡ 0 + length xs = omega (arith, e) in ap (λ (k : ℕ). Some k) size ∙ sym (passes_last p 0 xs x (alone t) t)
  by_test false f = sym (fails_last p 0 xs x f)

pub none_is : (o : Option ℕ) → is_some o ≡ false → o ≡ None
none_is None e = refl
none_is (Some k) e = absurd cc

-- one element less, which passed alone if it did
pub place_unpushed : {X : Type 0} (p : X → Bool) (xs : List X) (x : X) → count_by p (xs ++ x ∷ []) ≤ 1 → cond (p x) None (position_from p 0 (xs ++ x ∷ [])) ≡ position_from p 0 xs
place_unpushed p xs x once = by_test (p x) refl where
  by_test : (b : Bool) → p x ≡ b → cond b None (position_from p 0 (xs ++ x ∷ [])) ≡ position_from p 0 xs
  by_test true t =
      let one : ◌≡◌ {A = ℕ} (cond (p x) 1 0) 1 = ap (λ b. cond b 1 0) t in
      let none = none_counted p xs (omega (arith, once, count_by-append p xs (x ∷ []), count_by-cons p x [], one)) in
      sym (none_is (position_from p 0 xs) (some_place p 0 xs ∙ none))
  by_test false f = fails_last p 0 xs x f

module _ {X : Type 0} (p : X → Bool) (xs : List X) (k : ℕ) (x : X) (within : k < length xs) (is : x ≡ get_or xs k x) where
  -- where at most one element passes, none before one that passes does
  pub none_before : count_by p xs ≤ 1 → p x ≡ true → list_any p (take k xs) ≡ false
  none_before once t =
      let more = sum_by_more_le (λ y. cond (p y) 1 0) xs k x within in
      let one : ◌≡◌ {A = ℕ} (cond (p (get_or xs k x)) 1 0) 1 = ap (λ (y : X). cond (p y) 1 0) (sym is) ∙ ap (λ b. cond b 1 0) t in
      none_counted p (take k xs) (omega (arith, more, one, once))

  -- where some place is kept exactly if some element passes, the place of the next one is right where that is put in
  pub place_put : count_by p xs ≤ 1 → (kept : Option ℕ) → is_some kept ≡ list_any p xs → (list_any p (take k xs) ≡ true → kept ≡ position_from p 0 (take k xs))
      → list_any p (take (k + 1) xs) ≡ true → cond (p x && is_some kept) (Some k) kept ≡ position_from p 0 (take (k + 1) xs)
  place_put once kept some before now = by_test (p x) refl ∙ ap (position_from p 0) (sym more) where
    more : take (k + 1) xs ≡ take k xs ++ x ∷ []
    more = take_more xs k x within ∙ ap (λ (y : X). take k xs ++ y ∷ []) (sym is)

    size : k ≡ length (take k xs)
    size = search rules

    by_test : (b : Bool) → p x ≡ b → cond (b && is_some kept) (Some k) kept ≡ position_from p 0 (take k xs ++ x ∷ [])
    by_test true t =
        let there : is_some kept ≡ true = some ∙ list_any_at p xs k x within (ap p (sym is) ∙ t) in
        ap (λ b. cond b (Some k) kept) there ∙ ap (λ b. cond b (Some k) (position_from p 0 (take k xs))) (sym t)
        ∙ place_pushed p (take k xs) x k size (none_before once)
    by_test false f =
        let all = ap (list_any p) more ∙ list_any-append p (take k xs) (x ∷ []) in
        let last = ap (λ b. list_any p (take k xs) || (b || false)) f in
        before (or_nothing (list_any p (take k xs)) (sym last ∙ sym all ∙ now)) ∙ sym (fails_last p 0 (take k xs) x f)

pub same_some : (b : Bool) (kept : Option ℕ) (k : ℕ) → is_some (cond (b && is_some kept) (Some k) kept) ≡ is_some kept
same_some true None k = refl
same_some true (Some j) k = refl
same_some false kept k = refl

-- some place is kept exactly if some element passes, and is the right one then
pub placed_all : {X : Type 0} (p : X → Bool) (xs : List X) (kept : Option ℕ) → is_some kept ≡ list_any p xs → (list_any p xs ≡ true → kept ≡ position_from p 0 xs) → kept ≡ position_from p 0 xs
placed_all p xs kept some right = by_test (list_any p xs) refl where
  by_test : (b : Bool) → list_any p xs ≡ b → kept ≡ position_from p 0 xs
  by_test true t = right t
  by_test false f = none_is kept (some ∙ f) ∙ sym (none_is (position_from p 0 xs) (some_place p 0 xs ∙ f))

-- what stands behind one that passes does not matter
passes_before : {X : Type 0} (p : X → Bool) (i : ℕ) (xs ys : List X) → list_any p xs ≡ true → position_from p i (xs ++ ys) ≡ position_from p i xs
passes_before p i [] ys t = absurd cc
passes_before p i (x ∷ xs) ys t = by_test (p x) t (passes_before p (i + 1) xs ys) where
  by_test : (b : Bool) → (b || list_any p xs) ≡ true → (list_any p xs ≡ true → position_from p (i + 1) (xs ++ ys) ≡ position_from p (i + 1) xs)
      → cond b (Some i) (position_from p (i + 1) (xs ++ ys)) ≡ cond b (Some i) (position_from p (i + 1) xs)
  by_test true t later = refl
  by_test false t later = later t

-- the place of one that passes among the first ones is its place among all
pub place_before : {X : Type 0} (p : X → Bool) (xs : List X) (k : ℕ) → list_any p (take k xs) ≡ true → position_from p 0 xs ≡ position_from p 0 (take k xs)
place_before p xs k t = ap (position_from p 0) (sym (take-append-drop k xs)) ∙ passes_before p 0 (take k xs) (drop k xs) t

pub some_before : {X : Type 0} (p : X → Bool) (xs : List X) (k : ℕ) → list_any p (take k xs) ≡ true → list_any p xs ≡ true
some_before p xs k t = ap (list_any p) (sym (take-append-drop k xs)) ∙ list_any-append p (take k xs) (drop k xs) ∙ ap (λ b. b || list_any p (drop k xs)) t
