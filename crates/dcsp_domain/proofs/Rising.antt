-- Rising lists of integers: by index, and by recursion on the list.
use Rattle.std.proofs.Common.{◌≡◌, suc, Bool, true, false, List, [], ◌∷◌, get_or, refl, sym, ap, arith, inl, inr, ◌⊎◌, subst}
use Rattle.std.specs.Prelude.{ℤ, ◌<ℤ◌, ◌||◌, All, Contains, cond, filter}
use Rattle.std.specs.Bool.{Decides}
use Rattle.std.specs.Ordering.{int_eq}
use Rattle.std.proofs.lemmas.Bool.Decides.{Decides-int_eq, same_from_decides}
use Rattle.std.proofs.lemmas.Cmp.{int_eq_equiv}
use Rattle.std.proofs.lemmas.List.Elements.{Contains-get_or}
use Rattle.std.proofs.lemmas.List.Kept.{AllPairs-cons}
use Rattle.std.proofs.lemmas.Map.Views.{list_any-from_Contains, Contains-from_any}
use Rattle.dcsp_domain.specs.Sets.{IsRising, has}

-- the test says whether the list contains the value
pub has_decides : (xs : List ℤ) (v : ℤ) → Decides (has xs v) (Contains xs v)
has_decides xs v = (Contains-from_any (λ x y e. (Decides-int_eq x y).0 e) v xs, list_any-from_Contains int_eq_equiv v xs)

-- lists that contain the same values pass the same tests
pub has_same : (xs ys : List ℤ) (v : ℤ) → (Contains xs v → Contains ys v) → (Contains ys v → Contains xs v) → has xs v ≡ has ys v
has_same xs ys v there back =
    let a = has_decides xs v in
    let b = has_decides ys v in
    let moved : Decides (has ys v) (Contains xs v) = (λ e. back (b.0 e), λ c. b.1 (there c)) in
    same_from_decides (has xs v) (has ys v) a moved

-- x is below each value of the list
pub record IsBelow (x : ℤ) (ys : List ℤ) : Type 0 where
  pub each : (v : ℤ) → has ys v ≡ true → x <ℤ v

-- each number is below those after it
abbrev pub Rises : List ℤ → Type 0
Rises [] = Unit {0}
Rises (x ∷ xs) = IsBelow x xs × Rises xs

below_from_rising : (x : ℤ) (xs : List ℤ) → IsRising (x ∷ xs) → IsBelow x xs
below_from_rising x xs up = record {
  each = λ v h.
      let c = (has_decides xs v).0 h in
      subst (λ (w : ℤ). x <ℤ w) c.2 (up 0 (suc c.0) v (omega arith) (omega (arith, c.1)));
}

pub rises_from_rising : (xs : List ℤ) → IsRising xs → Rises xs
rises_from_rising [] up = tt
rises_from_rising (x ∷ xs) up =
    (below_from_rising x xs up, rises_from_rising xs (λ i j d l h. up (suc i) (suc j) d (omega arith) (omega arith)))

all_above : (x : ℤ) (xs : List ℤ) → IsBelow x xs → All (λ y. x <ℤ y) xs
all_above x xs below = λ k d l. below.each (get_or xs k d) ((has_decides xs (get_or xs k d)).1 (Contains-get_or xs k d l))

pub rising_from_rises : (xs : List ℤ) → Rises xs → IsRising xs
rising_from_rises [] r = λ i j d l h. absurd (omega arith)
rising_from_rises (x ∷ xs) r = AllPairs-cons (λ x y. x <ℤ y) x xs (all_above x xs r.0) (rising_from_rises xs r.1)

-- the first item is among them
pub has_first : (x : ℤ) (xs : List ℤ) → has (x ∷ xs) x ≡ true
has_first x xs = ap (λ b. b || has xs x) ((Decides-int_eq x x).1 refl)

-- a value among the items is the first or a later one
pub has_cases : (v x : ℤ) (xs : List ℤ) → has (x ∷ xs) v ≡ true → (v ≡ x) ⊎ (has xs v ≡ true)
has_cases v x xs = cases (int_eq v x) refl where
  cases : (b : Bool) → int_eq v x ≡ b → (b || has xs v) ≡ true → (v ≡ x) ⊎ (has xs v ≡ true)
  cases true e h = inl ((Decides-int_eq v x).0 e)
  cases false e h = inr h

-- a later value is among the items
pub has_later : (v x : ℤ) (xs : List ℤ) → has xs v ≡ true → has (x ∷ xs) v ≡ true
has_later v x xs h = cases (int_eq v x) where
  cases : (b : Bool) → (b || has xs v) ≡ true
  cases true = refl
  cases false = h

-- a value among those that pass a test is among all
has_from_filter : (p : ℤ → Bool) (v : ℤ) (xs : List ℤ) → has (filter p xs) v ≡ true → has xs v ≡ true
has_from_filter p v [] h = absurd (cc)
has_from_filter p v (x ∷ xs) h = cases (p x) (has_from_filter p v xs) h where
  cases : (b : Bool) → (has (filter p xs) v ≡ true → has xs v ≡ true) → has (cond b (x ∷ filter p xs) (filter p xs)) v ≡ true → has (x ∷ xs) v ≡ true
  cases true later h = elim (has_cases v x (filter p xs) h) [
    | inl e ↦ subst (λ (z : ℤ). has (x ∷ xs) z ≡ true) (sym e) (has_first x xs)
    | inr l ↦ has_later v x xs (later l)
  ]
  cases false later h = has_later v x xs (later h)

-- those of rising numbers that pass a test rise
pub rises_filter : (p : ℤ → Bool) (xs : List ℤ) → Rises xs → Rises (filter p xs)
rises_filter p [] r = tt
rises_filter p (x ∷ xs) r = kept (p x) (rises_filter p xs r.1) where
  kept : (b : Bool) → Rises (filter p xs) → Rises (cond b (x ∷ filter p xs) (filter p xs))
  kept true later = (record { each = λ v h. r.0.each v (has_from_filter p v xs h) }, later)
  kept false later = later
