-- Lists that are made of lists: as text, their lengths, and what holds of all that is in them.
use Rattle.std.proofs.Common.{◌≡◌, ℕ, zero, suc, ◌+◌, ◌-◌, ◌*◌, ◌≤◌, Bool, true, false, not, List, [], ◌∷◌, ◌++◌, map, flat_map, filter, length, get_or, refl, ap, ◌∙◌, length-append, arith}
use Rattle.std.specs.Prelude.{if◌then◌else◌}
use Rattle.std.specs.List.{range_with_len, AllByRecursion}
use Rattle.std.proofs.lemmas.Grind.{flat_map-append}
use Rattle.std.proofs.Math.Nat.{mul_comm}
use Rattle.std.proofs.lemmas.List.{length-map}
use Rattle.dcsp_gen.specs.Lists.{list_of, pairs_in, next_to, neighbours}
use Rattle.dcsp_gen.specs.Selection.{chooses, selected, selections, wanted_after, words_after}
use Rattle.dcsp_gen.proofs.Selecting.{once_more, length_range}
use Rattle.law_subjects.proofs.Lists.{all_append, all_map}
use Rattle.law_subjects.proofs.Lengths.{total}

-- ---- lists of lists, as text

-- lists of lists of lists
pub flat_flat : {X Y Z : Type 0} (f : Y → List Z) (g : X → List Y) (xs : List X) → flat_map f (flat_map g xs) ≡ flat_map (λ x. flat_map f (g x)) xs
flat_flat f g [] = refl
flat_flat f g (x ∷ xs) = flat_map-append f (g x) (flat_map g xs) ∙ ap (λ t. flat_map f (g x) ++ t) (flat_flat f g xs)

-- equal lists for each item
pub flat_same : {X Y : Type 0} (f g : X → List Y) (xs : List X) → ((x : X) → f x ≡ g x) → flat_map f xs ≡ flat_map g xs
flat_same f g [] same = refl
flat_same f g (x ∷ xs) same = ap (λ t. t ++ flat_map f xs) (same x) ∙ ap (λ t. g x ++ t) (flat_same f g xs same)

-- of what a function makes of each
pub flat_mapped : {X Y Z : Type 0} (f : Y → List Z) (g : X → Y) (h : X → List Z) (xs : List X) → ((x : X) → f (g x) ≡ h x) → flat_map f (map g xs) ≡ flat_map h xs
flat_mapped f g h [] same = refl
flat_mapped f g h (x ∷ xs) same = ap (λ t. t ++ flat_map f (map g xs)) (same x) ∙ ap (λ t. h x ++ t) (flat_mapped f g h xs same)

-- ---- lengths

-- lists of at most so many items each, of things that are few
pub few_flat : {X Y : Type 0} (f : X → List Y) (most : ℕ) (xs : List X) → ((x : X) → length (f x) ≤ most) → length (flat_map f xs) ≤ length xs * most
few_flat f most [] each = omega arith
few_flat f most (x ∷ xs) each =
    let here = each x in
    let rest = few_flat f most xs each in
    let long : length (f x ++ flat_map f xs) ≡ length (f x) + length (flat_map f xs) = length-append (f x) (flat_map f xs) in
    let more : suc (length xs) * most ≡ most + length xs * most = once_more (length xs) most in
    omega (arith, here, rest, long, more)

-- no more pass a test than there are
filter_few : (p : ℕ → Bool) (xs : List ℕ) → length (filter p xs) ≤ length xs
filter_few p [] = omega arith
filter_few p (x ∷ xs) = by (p x) (filter_few p xs) where
  by : (b : Bool) → length (filter p xs) ≤ length xs → length (if b then x ∷ filter p xs else filter p xs) ≤ suc (length xs)
  by true rest = omega (arith, rest)
  by false rest = omega (arith, rest)

-- half as many pairs as the square
pub pairs_few : (xs : List ℕ) → 2 * length (pairs_in xs) ≤ length xs * length xs
pairs_few [] = omega arith
pairs_few (x ∷ xs) =
    let n = length xs in
    let rest = pairs_few xs in
    let here : length (map {B = ℕ × ℕ} (λ second. (x, second)) xs) ≡ n = length-map xs (λ second. (x, second)) in
    let both : length (map {B = ℕ × ℕ} (λ second. (x, second)) xs ++ pairs_in xs) ≡ length (map {B = ℕ × ℕ} (λ second. (x, second)) xs) + length (pairs_in xs) = length-append (map (λ second. (x, second)) xs) (pairs_in xs) in
    let square : suc n * suc n ≡ suc n + n * suc n = once_more n (suc n) in
    let turned : n * suc n ≡ suc n * n = mul_comm n (suc n) in
    let inner : suc n * n ≡ n + n * n = once_more n n in
    omega (arith, rest, here, both, square, turned, inner)

-- as many neighbours as numbers behind the first
next_few : (first : ℕ) (xs : List ℕ) → length (next_to first xs) ≤ length xs
next_few first [] = omega arith
next_few first (x ∷ xs) = let rest = next_few x xs in omega (arith, rest)

-- and so no more than numbers
pub neighbours_few : (xs : List ℕ) → length (neighbours xs) ≤ length xs
neighbours_few [] = omega arith
neighbours_few (x ∷ xs) = let rest = next_few x xs in omega (arith, rest)

-- no more of a range pass than it has
pub filtered_few : (p : ℕ → Bool) (low count : ℕ) → length (filter p (range_with_len low count)) ≤ count
filtered_few p low count = let few = filter_few p (range_with_len low count) in let size = length_range low count in omega (arith, few, size)

-- ---- totals

-- two lists count for what each does
pub total_append : {X : Type 0} (f : X → ℕ) (xs ys : List X) → total f (xs ++ ys) ≡ total f xs + total f ys
total_append f [] ys = omega arith
total_append f (x ∷ xs) ys = let rest = total_append f xs ys in omega (arith, rest)

-- items that count for at most so much each
pub total_few : {X : Type 0} (f : X → ℕ) (most : ℕ) (xs : List X) → AllByRecursion (λ x. f x ≤ most) xs → total f xs ≤ length xs * most
total_few f most [] h = omega arith
total_few f most (x ∷ xs) h =
    let here = h.0 in
    let rest = total_few f most xs h.1 in
    let more : suc (length xs) * most ≡ most + length xs * most = once_more (length xs) most in
    omega (arith, here, rest, more)

-- ---- what holds of each

-- what holds of each number holds of both of each pair
pub all_pairs_in : (P : ℕ → Type 0) (xs : List ℕ) → AllByRecursion P xs → AllByRecursion (λ (pair : ℕ × ℕ). P pair.0 × P pair.1) (pairs_in xs)
all_pairs_in P [] h = tt
all_pairs_in P (x ∷ xs) h =
    all_append (λ (pair : ℕ × ℕ). P pair.0 × P pair.1) (map (λ second. (x, second)) xs) (pairs_in xs)
    (all_map (λ (pair : ℕ × ℕ). P pair.0 × P pair.1) (λ second. (x, second)) xs (beside xs h.1)) (all_pairs_in P xs h.1)
  where
    -- one number, and each behind it
    beside : (ys : List ℕ) → AllByRecursion P ys → AllByRecursion (λ second. P x × P second) ys
    beside [] k = tt
    beside (y ∷ ys) k = ((h.0, k.0), beside ys k.1)

-- the same of a number and the next one
all_next : (P : ℕ → Type 0) (first : ℕ) (xs : List ℕ) → P first → AllByRecursion P xs → AllByRecursion (λ (pair : ℕ × ℕ). P pair.0 × P pair.1) (next_to first xs)
all_next P first [] here h = tt
all_next P first (x ∷ xs) here h = ((here, h.0), all_next P x xs h.0 h.1)

-- and of all neighbours
pub all_neighbours : (P : ℕ → Type 0) (xs : List ℕ) → AllByRecursion P xs → AllByRecursion (λ (pair : ℕ × ℕ). P pair.0 × P pair.1) (neighbours xs)
all_neighbours P [] h = tt
all_neighbours P (x ∷ xs) h = all_next P x xs h.0 h.1

-- of each that passes a test
pub all_filtered : (P : ℕ → Type 0) (p : ℕ → Bool) (xs : List ℕ) → AllByRecursion P xs → AllByRecursion (λ x. P x × (p x ≡ true)) (filter p xs)
all_filtered P p [] h = tt
all_filtered P p (x ∷ xs) h = by (p x) refl (all_filtered P p xs h.1) where
  by : (b : Bool) → p x ≡ b → AllByRecursion (λ x. P x × (p x ≡ true)) (filter p xs) → AllByRecursion (λ x. P x × (p x ≡ true)) (if b then x ∷ filter p xs else filter p xs)
  by true e rest = ((h.0, e), rest)
  by false e rest = rest

-- what holds of each of some lists, and of the empty one, holds of the list of any number
got : (P : List ℕ → Type 0) (lists : List (List ℕ)) (k : ℕ) → AllByRecursion P lists → P [] → P (get_or lists k [])
got P [] k h none = none
got P (list ∷ lists) zero h none = h.0
got P (list ∷ lists) (suc k) h none = got P lists k h.1 none

-- by its number
pub listed_all : (P : List ℕ → Type 0) (lists : List (List ℕ)) (number : ℕ) → AllByRecursion P lists → P [] → P (list_of lists number)
listed_all P lists number h none = got P lists (number - 1) h none

-- ---- selections

-- no more are selected than there are
pub selected_few : {X : Type 0} (kept : Bool) (words : ℕ → ℕ) (wanted : ℕ) (xs : List X) → length (selected kept words wanted xs) ≤ length xs
selected_few kept words wanted [] = omega arith
selected_few {X = X} kept words wanted (x ∷ xs) =
    let chosen = chooses (words 0) wanted (suc (length xs)) in
    by (selected kept (λ k. words (suc k)) (wanted_after chosen wanted) xs) (selected_few kept (λ k. words (suc k)) (wanted_after chosen wanted) xs) (if kept then chosen else not chosen)
  where
    by : (rest : List X) → length rest ≤ length xs → (b : Bool) → length (if b then x ∷ rest else rest) ≤ suc (length xs)
    by rest few true = omega (arith, few)
    by rest few false = omega (arith, few)

-- what holds of each selection, whatever the words
pub all_selections : (P : List ℕ → Type 0) (kept : Bool) (words : ℕ → ℕ) (wanted high count : ℕ) → ((later : ℕ → ℕ) → P (selected kept later wanted (range_with_len 1 high))) → AllByRecursion P (selections kept words wanted high count)
all_selections P kept words wanted high zero each = tt
all_selections P kept words wanted high (suc count) each = (each words, all_selections P kept (words_after high words) wanted high count each)

-- as many selections as are wanted
pub selections_many : (kept : Bool) (words : ℕ → ℕ) (wanted high count : ℕ) → length (selections kept words wanted high count) ≡ count
selections_many kept words wanted high zero = refl
selections_many kept words wanted high (suc count) = ap suc (selections_many kept (words_after high words) wanted high count)
