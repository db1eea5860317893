-- Rising lists of numbers are determined by their members.
use Rattle.std.proofs.Common.{◌≡◌, ℕ, zero, suc, ◌<◌, Bool, true, false, cond, List, [], ◌∷◌, ◌++◌, length, get_or, filter, refl, sym, ap, ◌∙◌, arith, inl, inr, subst}
use Rattle.std.specs.Prelude.{Contains, AllPairs, IsPermutation, ◌==◌}
use Rattle.std.specs.List.{dedup}
use Rattle.std.specs.List.Retain.{IsFiltered, DiffersFromLast}
use Rattle.std.specs.List.Sorted.{IsSorted}
use Rattle.std.specs.Ordering.{nat_cmp}
use Rattle.std.proofs.lemmas.List.Filters.{dedup_is}
use Rattle.std.proofs.lemmas.List.Kept.{Contains-dedup_nat, Contains-from_dedup, AllPairs-from_increasing}
use Rattle.std.proofs.lemmas.List.Sorted.{Contains-permutation, IsPermutation-sym}
use Rattle.std.proofs.lemmas.Map.Keys.{IsStrictlyIncreasing-dedup}
use Rattle.dcsp_defs.specs.Words.{In, IsRising, below}
use Rattle.dcsp_defs.proofs.Lists.{In-split, In-below}

pub In-get_or : {X : Type 0} → (xs : List X) (k : ℕ) (d : X) → k < length xs → In (get_or xs k d) xs
In-get_or [] k d l = absurd (omega arith)
In-get_or (x ∷ xs) zero d l = inl refl
In-get_or (x ∷ xs) (suc k) d l = inr (In-get_or xs k d (omega arith))

-- a member in std's words, and in those of the definitions
pub In-Contains : {X : Type 0} → (xs : List X) (x : X) → Contains xs x → In x xs
In-Contains {X} xs x c = subst (λ (z : X). In z xs) c.2 (In-get_or xs c.0 x c.1)

pub Contains-In : {X : Type 0} → (xs : List X) (x : X) → In x xs → Contains xs x
Contains-In [] x i = absurd i
Contains-In (y ∷ ys) x (inl e) = (0, omega arith, sym e)
Contains-In (y ∷ ys) x (inr i) = let c = Contains-In ys x i in (suc c.0, omega (arith, c.1), c.2)

-- numbers that rise by place rise
pub rising_from_pairs : (xs : List ℕ) → AllPairs (λ x y. x < y) xs → IsRising xs
rising_from_pairs [] up = tt
rising_from_pairs (x ∷ xs) up = (
  λ y i. let c = Contains-In xs y i in subst (λ (z : ℕ). x < z) c.2 (up 0 (suc c.0) y (omega arith) (omega (arith, c.1))),
  rising_from_pairs xs (λ i j d l h. up (suc i) (suc j) d (omega arith) (omega arith)),
)

In-filter_pass : {X : Type 0} → (q : X → Bool) (x : X) (xs : List X) → In x (filter q xs) → In x xs × (q x ≡ true)
In-filter_pass q x [] i = absurd i
In-filter_pass {X} q x (y ∷ xs) i = by_test (q y) refl i (In-filter_pass q x xs) where
  by_test : (b : Bool) → q y ≡ b → In x (cond b (y ∷ filter q xs) (filter q xs)) → (In x (filter q xs) → In x xs × (q x ≡ true)) → In x (y ∷ xs) × (q x ≡ true)
  by_test true e (inl same) rest = (inl same, ap q same ∙ e)
  by_test true e (inr later) rest = let r = rest later in (inr r.0, r.1)
  by_test false e later rest = let r = rest later in (inr r.0, r.1)

-- what a filter of the numbers below n has
pub In-filter_below : (q : ℕ → Bool) (n v : ℕ) → In v (filter q (below n)) → (v < n) × (q v ≡ true)
In-filter_below q n v i = let r = In-filter_pass q v (below n) i in (In-below n v r.0, r.1)

rising-push : (xs : List ℕ) (n : ℕ) → IsRising xs → ((v : ℕ) → In v xs → v < n) → IsRising (xs ++ n ∷ [])
rising-push [] n r b = (λ y i. absurd i, tt)
rising-push (x ∷ xs) n r b = (
  λ y i. elim (In-split y xs (n ∷ []) i) [
    | inl early ↦ r.0 y early
    | inr last ↦ elim last [ inl e ↦ subst (λ (z : ℕ). x < z) (sym e) (b x (inl refl)) | inr none ↦ absurd none ]
  ],
  rising-push xs n r.1 (λ v i. b v (inr i)),
)

rising-below : (n : ℕ) → IsRising (below n)
rising-below zero = tt
rising-below (suc n) = rising-push (below n) n (rising-below n) (λ v i. In-below n v i)

rising-filter : (q : ℕ → Bool) (xs : List ℕ) → IsRising xs → IsRising (filter q xs)
rising-filter q [] r = tt
rising-filter q (x ∷ xs) r = by_test (q x) (rising-filter q xs r.1) where
  by_test : (b : Bool) → IsRising (filter q xs) → IsRising (cond b (x ∷ filter q xs) (filter q xs))
  by_test true rest = (λ y i. r.0 y (In-filter_pass q y xs i).0, rest)
  by_test false rest = rest

pub rising-filter_below : (q : ℕ → Bool) (n : ℕ) → IsRising (filter q (below n))
rising-filter_below q n = rising-filter q (below n) (rising-below n)

same_first : (x y : ℕ) (xs ys : List ℕ) → IsRising (x ∷ xs) → IsRising (y ∷ ys) → In x (y ∷ ys) → In y (x ∷ xs) → x ≡ y
same_first x y xs ys r s (inl e) j = e
same_first x y xs ys r s (inr i) (inl e) = sym e
same_first x y xs ys r s (inr i) (inr j) = let a = s.0 x i in let b = r.0 y j in absurd (omega arith)

-- a later member of one list is a later member of the other
later : (x v : ℕ) (xs ys : List ℕ) → IsRising (x ∷ xs) → In v xs → In v (x ∷ ys) → In v ys
later x v xs ys r i (inl e) = let l = r.0 v i in absurd (omega arith)
later x v xs ys r i (inr j) = j

pub same_members : (xs ys : List ℕ) → IsRising xs → IsRising ys → ((v : ℕ) → In v xs → In v ys) → ((v : ℕ) → In v ys → In v xs) → xs ≡ ys
same_members [] [] r s f g = refl
same_members [] (y ∷ ys) r s f g = absurd (g y (inl refl))
same_members (x ∷ xs) [] r s f g = absurd (f x (inl refl))
same_members (x ∷ xs) (y ∷ ys) r s f g =
    let e : x ≡ y = same_first x y xs ys r s (f x (inl refl)) (g y (inl refl)) in
    let there : (v : ℕ) → In v xs → In v (x ∷ ys) = λ v i. subst (λ (z : ℕ). In v (z ∷ ys)) (sym e) (f v (inr i)) in
    let back : (v : ℕ) → In v ys → In v (y ∷ xs) = λ v i. subst (λ (z : ℕ). In v (z ∷ xs)) e (g v (inr i)) in
    let rest : xs ≡ ys = same_members xs ys r.1 s.1 (λ v i. later x v xs ys r i (there v i)) (λ v i. later y v ys xs s i (back v i)) in
    ap (λ z. x ∷ z) rest ∙ ap (λ z. z ∷ ys) e

-- what is left of sorted numbers without repeats rises, and has just these numbers
pub rising-sorted_set : (values sorted left : List ℕ) → IsSorted nat_cmp sorted → IsFiltered (DiffersFromLast ◌==◌) [] sorted left → IsRising left
rising-sorted_set values sorted left up kept =
    let is : left ≡ dedup ◌==◌ sorted = dedup_is ◌==◌ sorted left kept in
    rising_from_pairs left (AllPairs-from_increasing left (rw is (IsStrictlyIncreasing-dedup sorted up)))

pub In-sorted_set : (values sorted left : List ℕ) → IsPermutation values sorted → IsFiltered (DiffersFromLast ◌==◌) [] sorted left → (v : ℕ) → In v values → In v left
In-sorted_set values sorted left moved kept v i =
    let is : left ≡ dedup ◌==◌ sorted = dedup_is ◌==◌ sorted left kept in
    In-Contains left v (rw is (Contains-dedup_nat sorted v (Contains-permutation values sorted v moved (Contains-In values v i))))

pub In-from_sorted_set : (values sorted left : List ℕ) → IsPermutation values sorted → IsFiltered (DiffersFromLast ◌==◌) [] sorted left → (v : ℕ) → In v left → In v values
In-from_sorted_set values sorted left moved kept v i =
    let is : left ≡ dedup ◌==◌ sorted = dedup_is ◌==◌ sorted left kept in
    let c : Contains (dedup ◌==◌ sorted) v = rw is at (Contains-In left v i) in
    In-Contains values v (Contains-permutation sorted values v (IsPermutation-sym values sorted moved) (Contains-from_dedup ◌==◌ sorted v c))
