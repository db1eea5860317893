-- What a list keeps when an item leaves or comes, and counts of pairs of which one rises.
use Rattle.std.proofs.Common.{◌≡◌, ◌≢◌, ℕ, zero, suc, ◌+◌, ◌<◌, ◌≤◌, ◌%◌, Bool, true, false, cond, ◌⊎◌, inl, inr, List, [], ◌∷◌, ◌++◌, take, drop, length, slice_get, Option, Some, None, is_some, find, ◌==◌, refl, sym, ap, ◌∙◌, arith}
use Rattle.std.specs.List.{remove, position, position_or_len}
use Rattle.std.specs.Prelude.{nat_lt}
use Rattle.std.proofs.lemmas.Bool.Decides.{nat_tests, eqb_tells}
use Rattle.std.proofs.lemmas.List.Folds.{find_at}
use Rattle.std.proofs.lemmas.Option.{slice_get_within}
use Rattle.dcsp_defs.specs.Words.{In}
use Rattle.dcsp_defs.proofs.Lists.{In-split, find-some, find-found, get-In}
use Rattle.law_runs.specs.Packets.{Packet, place, coming, staying}
use Rattle.law_runs.specs.Worlds.{raised}

In-take : {X : Type 0} → (n : ℕ) (x : X) (xs : List X) → In x (take n xs) → In x xs
In-take zero x xs h = absurd h
In-take (suc n) x [] h = absurd h
In-take (suc n) x (y ∷ ys) (inl e) = inl e
In-take (suc n) x (y ∷ ys) (inr h) = inr (In-take n x ys h)

In-drop : {X : Type 0} → (n : ℕ) (x : X) (xs : List X) → In x (drop n xs) → In x xs
In-drop zero x xs h = h
In-drop (suc n) x [] h = absurd h
In-drop (suc n) x (y ∷ ys) h = inr (In-drop n x ys h)

pub In-remove : {X : Type 0} → (n : ℕ) (x : X) (xs : List X) → In x (remove xs n) → In x xs
In-remove n x xs h = elim (In-split x (take n xs) (drop (suc n) xs) h) [ inl u ↦ In-take n x xs u | inr u ↦ In-drop (suc n) x xs u ]

pub In-staying : (word : ℕ) (x : Packet) (pool : List Packet) → In x (staying word pool) → In x pool
In-staying word x pool h = (elim (word % 4 == 2) as (λ b. In x (cond b pool (remove pool (place word pool))) → In x pool) [ true ↦ λ u. u | false ↦ λ u. In-remove (place word pool) x pool u ]) h

pub coming-In : (word : ℕ) (x : Packet) (pool : List Packet) → coming word pool ≡ Some x → In x pool
coming-In word x pool h = (elim (word % 4 == 3) as (λ b. cond b None (slice_get pool (place word pool)) ≡ Some x → In x pool) [ true ↦ λ e. cc | false ↦ λ e. get-In pool (place word pool) x e ]) h

pub drop_get : {X : Type 0} → (xs : List X) (n : ℕ) (x : X) → slice_get xs n ≡ Some x → drop n xs ≡ x ∷ drop (suc n) xs
drop_get [] n x h = cc
drop_get (y ∷ ys) zero x h = let e : y ≡ x = cc in ap (λ z. z ∷ ys) e
drop_get (y ∷ ys) (suc n) x h = drop_get ys n x h

pub take_get : {X : Type 0} → (xs : List X) (n : ℕ) (x : X) → slice_get xs n ≡ Some x → take (n + 1) xs ≡ take n xs ++ x ∷ []
take_get [] n x h = cc
take_get (y ∷ ys) zero x h = let e : y ≡ x = cc in ap (λ z. z ∷ []) e
take_get (y ∷ ys) (suc n) x h = let e : suc n + 1 ≡ suc (n + 1) = omega arith in rw e (ap (λ z. y ∷ z) (take_get ys n x h))

-- ---- one more at a pair

pub raised_tells : (f : ℕ → ℕ → ℕ) (k i a b : ℕ) → ((a ≡ k) × (b ≡ i) × (raised f k i a b ≡ f k i + 1)) ⊎ (raised f k i a b ≡ f a b)
raised_tells f k i a b = elim (eqb_tells a k) [
  | inl t ↦ elim (eqb_tells b i) [
    | inl u ↦ inl (t.1, u.1, rw (t.0, u.0) refl)
    | inr u ↦ inr (rw (t.0, u.0) (ap (λ z. f z b) (sym t.1)))
  ]
  | inr t ↦ inr (rw t.0 refl)
]

pub raised_up : (f : ℕ → ℕ → ℕ) (k i a b : ℕ) → f a b ≤ raised f k i a b
raised_up f k i a b = elim (raised_tells f k i a b) [
  | inl t ↦ let e : f a b ≡ f k i = ap (λ z. f z b) t.0 ∙ ap (f k) t.1 in let g = t.2 in omega arith
  | inr t ↦ omega arith
]

pub raised_here : (f : ℕ → ℕ → ℕ) (k i : ℕ) → raised f k i k i ≡ f k i + 1
raised_here f k i = elim (eqb_tells k k) [
  | inl t ↦ elim (eqb_tells i i) [ inl u ↦ rw (t.0, u.0) refl | inr u ↦ absurd (u.1 refl) ]
  | inr t ↦ absurd (t.1 refl)
]

pub raised_row : (f : ℕ → ℕ → ℕ) (k i a : ℕ) → a ≢ k → (b : ℕ) → raised f k i a b ≡ f a b
raised_row f k i a ne b = elim (eqb_tells a k) [ inl t ↦ absurd (ne t.1) | inr t ↦ rw t.0 refl ]

pub raised_cell : (f : ℕ → ℕ → ℕ) (k i b : ℕ) → b ≢ i → raised f k i k b ≡ f k b
raised_cell f k i b ne = elim (eqb_tells k k) [
  | inl t ↦ elim (eqb_tells b i) [ inl u ↦ absurd (ne u.1) | inr u ↦ rw (t.0, u.0) refl ]
  | inr t ↦ absurd (t.1 refl)
]

-- ---- the place of a pair

-- an item that passes has a first place, where an item that passes stands
pub first_place : {X : Type 0} → (t : X → Bool) (x : X) (xs : List X) → In x xs → t x ≡ true → (c : ℕ) × (y : X) × (position t xs ≡ Some c) × (slice_get xs c ≡ Some y) × (t y ≡ true) × (c < length xs)
first_place {X = X} t x xs i h = by_find (find t xs) refl (find-some t x xs i h)
  where
    by_find : (o : Option X) → find t xs ≡ o → is_some o ≡ true → (c : ℕ) × (y : X) × (position t xs ≡ Some c) × (slice_get xs c ≡ Some y) × (t y ≡ true) × (c < length xs)
    by_find None e s = cc
    by_find (Some y) e s =
        let r = find-found t y xs e in
        let g : slice_get xs (position_or_len t xs) ≡ Some y = sym (find_at t xs) ∙ e in
        let l : position_or_len t xs < length xs = slice_get_within xs (position_or_len t xs) y g in
        let n : nat_lt (position_or_len t xs) (length xs) ≡ true = grind (arith, nat_tests) in
        (position_or_len t xs, y, rw n refl, g, r.1, l)
