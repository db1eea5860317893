-- Members of lists, and tests that find them.
use Rattle.std.proofs.Common.{◌≡◌, ℕ, zero, suc, ◌<◌, Bool, true, ◌&&◌, ◌||◌, ◌==◌, List, [], ◌∷◌, map, filter, get_or, length, nat_lt, refl, sym, ap, ◌∙◌, arith, inl, inr}
use Rattle.std.specs.List.{list_any}
use Rattle.std.proofs.lemmas.Bool.{or_left, or_right, or_cases, and_parts, eqb-true, eq-eqb}
use Rattle.std.proofs.lemmas.Bool.Decides.{nat_tests}
use Rattle.std.proofs.lemmas.List.Folds.{list_any-append}
use Rattle.std.proofs.lemmas.Map.Views.{any-filter_same}
use Rattle.dcsp_defs.specs.Words.{In, below}
use Rattle.abt_defs.specs.Agents.{is_among}

pub In-get_or : {X : Type 0} → (xs : List X) (k : ℕ) (d : X) → k < length xs → In (get_or xs k d) xs
In-get_or [] k d l = absurd (omega arith)
In-get_or (x ∷ xs) zero d l = inl refl
In-get_or (x ∷ xs) (suc k) d l = inr (In-get_or xs k d (omega arith))

pub In-map : {X Y : Type 0} → (f : X → Y) (x : X) (xs : List X) → In x xs → In (f x) (map f xs)
In-map f x [] i = absurd i
In-map f x (y ∷ xs) (inl e) = inl (ap f e)
In-map f x (y ∷ xs) (inr i) = inr (In-map f x xs i)

-- a test finds a member that passes
pub list_any-In : {X : Type 0} → (q : X → Bool) (x : X) (xs : List X) → In x xs → q x ≡ true → list_any q xs ≡ true
list_any-In q x [] i h = absurd i
list_any-In q x (y ∷ xs) (inl e) h = or_left (q y) (list_any q xs) (ap q (sym e) ∙ h)
list_any-In q x (y ∷ xs) (inr i) h = or_right (q y) (list_any q xs) (list_any-In q x xs i h)

pub In_among : (k : ℕ) (ts : List ℕ) → In k ts → is_among k ts ≡ true
In_among k ts i = list_any-In (λ x. k == x) k ts i (eq-eqb k k refl)

pub among_In : (k : ℕ) (ts : List ℕ) → is_among k ts ≡ true → In k ts
among_In k [] e = cc
among_In k (t ∷ ts) e = elim (or_cases (k == t) (is_among k ts) e) [ inl f ↦ inl (eqb-true k t f) | inr f ↦ inr (among_In k ts f) ]

-- a filter has just the members that pass
pub among-filter : (q : ℕ → Bool) (k : ℕ) (ts : List ℕ) → is_among k (filter q ts) ≡ (q k && is_among k ts)
among-filter q k ts = any-filter_same (λ x. k == x) q (q k) (λ x e. ap q (sym (eqb-true k x e))) ts

pub In-filtered : (q : ℕ → Bool) (k : ℕ) (ts : List ℕ) → In k (filter q ts) → (q k ≡ true) × (is_among k ts ≡ true)
In-filtered q k ts i = and_parts (q k) (is_among k ts) (sym (among-filter q k ts) ∙ In_among k (filter q ts) i)

pub among-below : (k n : ℕ) → is_among k (below n) ≡ nat_lt k n
among-below k zero = grind (arith, nat_tests)
among-below k (suc n) = list_any-append (λ x. k == x) (below n) (n ∷ []) ∙ ap (λ b. b || is_among k (n ∷ [])) (among-below k n) ∙ last k n
  where
    last : (k n : ℕ) → (nat_lt k n || is_among k (n ∷ [])) ≡ nat_lt k (suc n)
    last k n = grind (arith, nat_tests)
