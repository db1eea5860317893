-- What holds of each item of lists that are made of lists.
use Rattle.std.proofs.Common.{◌≡◌, ℕ, zero, suc, ◌+◌, ◌*◌, ◌<◌, ◌≤◌, List, [], ◌∷◌, ◌++◌, map, flat_map, length, length-append, arith}
use Rattle.std.specs.List.{range_with_len, AllByRecursion}
use Rattle.law_subjects.specs.Lines.{ModelLine, lines_with_words}

pub all_weaker : {X : Type 0} (P Q : X → Type 0) (xs : List X) → ((x : X) → P x → Q x) → AllByRecursion P xs → AllByRecursion Q xs
all_weaker P Q [] f h = tt
all_weaker P Q (x ∷ xs) f h = (f x h.0, all_weaker P Q xs f h.1)

pub all_append : {X : Type 0} (P : X → Type 0) (xs ys : List X) → AllByRecursion P xs → AllByRecursion P ys → AllByRecursion P (xs ++ ys)
all_append P [] ys h k = k
all_append P (x ∷ xs) ys h k = (h.0, all_append P xs ys h.1 k)

pub all_map : {X Y : Type 0} (P : Y → Type 0) (f : X → Y) (xs : List X) → AllByRecursion (λ x. P (f x)) xs → AllByRecursion P (map f xs)
all_map P f [] h = tt
all_map P f (x ∷ xs) h = (h.0, all_map P f xs h.1)

pub all_flat_map : {X Y : Type 0} (P : Y → Type 0) (f : X → List Y) (xs : List X) → AllByRecursion (λ x. AllByRecursion P (f x)) xs → AllByRecursion P (flat_map f xs)
all_flat_map P f [] h = tt
all_flat_map P f (x ∷ xs) h = all_append P (f x) (flat_map f xs) h.0 (all_flat_map P f xs h.1)

pub all_range : (P : ℕ → Type 0) (a count : ℕ) → ((i : ℕ) → a ≤ i → i < a + count → P i) → AllByRecursion P (range_with_len a count)
all_range P a zero h = tt
all_range P a (suc count) h = (h a (omega arith) (omega arith), all_range P (a + 1) count (λ i l r. h i (omega (arith, l)) (omega (arith, r))))

pub all_words : {X : Type 0} (P : X → Type 0) (Q : ModelLine → Type 0) (make : ℕ → X → List ModelLine) (words : ℕ → ℕ) (xs : List X) → ((word : ℕ) (x : X) → P x → AllByRecursion Q (make word x))
    → AllByRecursion P xs → AllByRecursion Q (lines_with_words make words xs)
all_words P Q make words [] f h = tt
all_words P Q make words (x ∷ xs) f h =
    all_append Q (make (words 0) x) (lines_with_words make (λ k. words (suc k)) xs) (f (words 0) x h.0) (all_words P Q make (λ k. words (suc k)) xs f h.1)

-- lists of at most so many items each
pub few_in_all : {X Y : Type 0} (f : X → List Y) (most : ℕ) (xs : List X) → AllByRecursion (λ x. length (f x) ≤ most) xs → length (flat_map f xs) ≤ length xs * most
few_in_all f most [] h = omega arith
few_in_all f most (x ∷ xs) h =
    let here = h.0 in
    let rest = few_in_all f most xs h.1 in
    let long : length (f x ++ flat_map f xs) ≡ length (f x) + length (flat_map f xs) = length-append (f x) (flat_map f xs) in
    omega (arith, here, rest, long)

pub few_words : {X : Type 0} (make : ℕ → X → List ModelLine) (words : ℕ → ℕ) (xs : List X) → ((word : ℕ) (x : X) → length (make word x) ≤ 1) → length (lines_with_words make words xs) ≤ length xs
few_words make words [] h = omega arith
few_words make words (x ∷ xs) h =
    let here = h (words 0) x in
    let rest = few_words make (λ k. words (suc k)) xs h in
    let long : length (make (words 0) x ++ lines_with_words make (λ k. words (suc k)) xs) ≡ length (make (words 0) x) + length (lines_with_words make (λ k. words (suc k)) xs) =
    length-append (make (words 0) x) (lines_with_words make (λ k. words (suc k)) xs) in
    omega (arith, here, rest, long)
