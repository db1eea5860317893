-- Names of a letter, a number, a letter and a number: they are names, and those of different numbers differ.
use Rattle.std.proofs.Common.{◌≡◌, ℕ, zero, suc, ◌+◌, ◌<◌, ◌≤◌, ◌^◌, inl, inr, Bool, true, false, ◌&&◌, List, [], ◌∷◌, ◌++◌, map, flat_map, length, refl, sym, ap, ◌∙◌, subst, append_assoc, decimal, arith}
use Rattle.std.specs.List.{list_all, range_with_len, AllByRecursion}
use Rattle.std.proofs.lemmas.Bool.{false≢true}
use Rattle.std.proofs.lemmas.Bool.Decides.{eqb_tells}
use Rattle.std.proofs.lemmas.Fmt.{decimal_injective}
use Rattle.std.proofs.lemmas.List.Folds.{list_all-append}
use Rattle.dcsp_defs.specs.Words.{In}
use Rattle.fzn_token.specs.Bytes.{is_letter, is_name_byte, is_digit_in}
use Rattle.law_subjects.specs.RandomBinary.{AreApart}
use Rattle.law_subjects.specs.Named.{IsName, Choice, names_of}
use Rattle.law_subjects.proofs.Numbers.{both_first, both_second}
use Rattle.law_subjects.proofs.Tokens.{starts}
use Rattle.law_subjects.proofs.PieceKinds.{decimal_digits}
use Rattle.law_subjects.proofs.VariableNames.{no_keyword, digit_no_letter, digits_of_name}
use Rattle.law_subjects.proofs.RandomBinary.{beside}

-- a letter, a number, a letter and a number
abbrev pub pair_name : ℕ → ℕ → ℕ × ℕ → List ℕ
pair_name a b pair = a ∷ (decimal pair.0 ++ (b ∷ decimal pair.1))

-- both numbers are small
abbrev pub ArePairSmall : ℕ × ℕ → Type 0
ArePairSmall pair = (pair.0 ≤ 2 ^ 31) × (pair.1 ≤ 2 ^ 31)

-- the name, with what follows it
pub pair_front : (a b : ℕ) (pair : ℕ × ℕ) (rest : List ℕ) → pair_name a b pair ++ rest ≡ a ∷ (decimal pair.0 ++ (b ∷ (decimal pair.1 ++ rest)))
pair_front a b pair rest = ap (λ (t : List ℕ). a ∷ t) (append_assoc (decimal pair.0) (b ∷ decimal pair.1) rest)

-- two names, with what stands around them
pub two_fronts : (front : List ℕ) (a b : ℕ) (first second : ℕ × ℕ) (rest : List ℕ)
    → front ++ (pair_name a b first ++ (44 ∷ (pair_name a b second ++ rest)))
    ≡ front ++ (a ∷ (decimal first.0 ++ (b ∷ (decimal first.1 ++ (44 ∷ (a ∷ (decimal second.0 ++ (b ∷ (decimal second.1 ++ rest)))))))))
two_fronts front a b first second rest =
    ap (λ (t : List ℕ). front ++ t) (pair_front a b first (44 ∷ (pair_name a b second ++ rest)))
    ∙ ap (λ (t : List ℕ). front ++ (a ∷ (decimal first.0 ++ (b ∷ (decimal first.1 ++ (44 ∷ t)))))) (pair_front a b second rest)

-- ---- they are names

-- digits in front begin with no letter
digits_front : (bs rest : List ℕ) → list_all (is_digit_in 10) bs ≡ true → 0 < length bs → starts is_letter (bs ++ rest) ≡ false
digits_front [] rest all some = absurd (omega (arith, some))
digits_front (b ∷ bs) rest all some = digit_no_letter b (both_first (is_digit_in 10 b) (list_all (is_digit_in 10) bs) all)

-- bytes that all pass, one after another
pub pair_is_name : (a b : ℕ) (pair : ℕ × ℕ) → is_letter a ≡ true → is_name_byte b ≡ true → ArePairSmall pair → IsName (pair_name a b pair)
pair_is_name a b pair letter middle small =
    let first = decimal_digits pair.0 small.0 in
    let second = decimal_digits pair.1 small.1 in
    let one : list_all is_name_byte (decimal pair.0) ≡ true = digits_of_name (decimal pair.0) first.all in
    let two : list_all is_name_byte (decimal pair.1) ≡ true = digits_of_name (decimal pair.1) second.all in
    let all : list_all is_name_byte (decimal pair.0 ++ (b ∷ decimal pair.1)) ≡ true =
    list_all-append is_name_byte (decimal pair.0) (b ∷ decimal pair.1)
    ∙ ap (λ (t : Bool). t && (is_name_byte b && list_all is_name_byte (decimal pair.1))) one
    ∙ ap (λ (t : Bool). true && (t && list_all is_name_byte (decimal pair.1))) middle
    ∙ ap (λ (t : Bool). true && (true && t)) two in
    (letter, all, no_keyword a (decimal pair.0 ++ (b ∷ decimal pair.1)) (digits_front (decimal pair.0) (b ∷ decimal pair.1) first.all first.some))

-- ---- they differ

-- equal lists have equal first items
first_same : (x y : ℕ) (xs ys : List ℕ) → x ∷ xs ≡ y ∷ ys → x ≡ y
first_same x y xs ys e = cc

-- and equal rests
rest_same : (x y : ℕ) (xs ys : List ℕ) → x ∷ xs ≡ y ∷ ys → xs ≡ ys
rest_same x y xs ys e = cc

-- digits in front of a byte that is no digit
digits_split : (b : ℕ) → is_digit_in 10 b ≡ false → (xs ys r s : List ℕ) → list_all (is_digit_in 10) xs ≡ true → list_all (is_digit_in 10) ys ≡ true → xs ++ (b ∷ r) ≡ ys ++ (b ∷ s) → (xs ≡ ys) × (r ≡ s)
digits_split b none [] [] r s all also e = (refl, rest_same b b r s e)
digits_split b none [] (y ∷ ys) r s all also e =
    let same : b ≡ y = first_same b y r (ys ++ (b ∷ s)) e in
    absurd (false≢true (sym none ∙ ap (is_digit_in 10) same ∙ both_first (is_digit_in 10 y) (list_all (is_digit_in 10) ys) also))
digits_split b none (x ∷ xs) [] r s all also e =
    let same : x ≡ b = first_same x b (xs ++ (b ∷ r)) s e in
    absurd (false≢true (sym none ∙ ap (is_digit_in 10) (sym same) ∙ both_first (is_digit_in 10 x) (list_all (is_digit_in 10) xs) all))
digits_split b none (x ∷ xs) (y ∷ ys) r s all also e =
    let same : x ≡ y = first_same x y (xs ++ (b ∷ r)) (ys ++ (b ∷ s)) e in
    let later = digits_split b none xs ys r s (both_second (is_digit_in 10 x) (list_all (is_digit_in 10) xs) all) (both_second (is_digit_in 10 y) (list_all (is_digit_in 10) ys) also) (rest_same x y (xs ++ (b ∷ r)) (ys ++ (b ∷ s)) e) in
    (ap (λ (z : ℕ). z ∷ xs) same ∙ ap (λ (zs : List ℕ). y ∷ zs) later.0, later.1)

-- pairs with equal parts are equal
pair_same : (k l : ℕ × ℕ) → k.0 ≡ l.0 → k.1 ≡ l.1 → k ≡ l
pair_same (a, b) (c, d) e f = rw (e, f) refl

-- equal names have equal numbers
pub pair_names_differ : (a b : ℕ) → is_digit_in 10 b ≡ false → (k l : ℕ × ℕ) → ArePairSmall k → ArePairSmall l → pair_name a b k ≡ pair_name a b l → k ≡ l
pair_names_differ a b none k l small also e =
    let rest = rest_same a a (decimal k.0 ++ (b ∷ decimal k.1)) (decimal l.0 ++ (b ∷ decimal l.1)) e in
    let both = digits_split b none (decimal k.0) (decimal l.0) (decimal k.1) (decimal l.1) (decimal_digits k.0 small.0).all (decimal_digits l.0 also.0).all rest in
    let p = small.0 in
    let q = small.1 in
    let r = also.0 in
    let s = also.1 in
    pair_same k l (decimal_injective k.0 l.0 (omega (arith, p)) (omega (arith, r)) both.0) (decimal_injective k.1 l.1 (omega (arith, q)) (omega (arith, s)) both.1)

-- ---- lists of them

-- what a name among those of some variables is the name of
in_names : (f : ℕ × ℕ → Choice) (keys : List (ℕ × ℕ)) (name : List ℕ) → In name (names_of (map f keys)) → (k : ℕ × ℕ) × In k keys × (name ≡ (f k).1)
in_names f [] name i = absurd i
in_names f (key ∷ keys) name (inl e) = (key, inl refl, e)
in_names f (key ∷ keys) name (inr i) = let rest = in_names f keys name i in (rest.0, inr rest.1, rest.2)

-- the name of one is among them
pub name_in : (f : ℕ × ℕ → Choice) (keys : List (ℕ × ℕ)) (k : ℕ × ℕ) → In k keys → In (f k).1 (names_of (map f keys))
name_in f [] k i = absurd i
name_in f (key ∷ keys) k (inl e) = inl (ap (λ (z : ℕ × ℕ). (f z).1) e)
name_in f (key ∷ keys) k (inr i) = inr (name_in f keys k i)

-- what holds of each holds of each that is among them
pub all_in : {X : Type 0} (P : X → Type 0) (xs : List X) → AllByRecursion P xs → (x : X) → In x xs → P x
all_in P [] h x i = absurd i
all_in P (y ∷ ys) h x (inl e) = subst P (sym e) h.0
all_in P (y ∷ ys) h x (inr i) = all_in P ys h.1 x i

-- and the other way round
pub in_all : {X : Type 0} (P : X → Type 0) (xs : List X) → ((x : X) → In x xs → P x) → AllByRecursion P xs
in_all P [] f = tt
in_all P (y ∷ ys) f = (f y (inl refl), in_all P ys (λ x i. f x (inr i)))

-- names of different keys differ
pub names_apart : (P : ℕ × ℕ → Type 0) (f : ℕ × ℕ → Choice) → ((k l : ℕ × ℕ) → P k → P l → (f k).1 ≡ (f l).1 → k ≡ l) → (keys : List (ℕ × ℕ)) → AllByRecursion P keys → AreApart keys → AreApart (names_of (map f keys))
names_apart P f differ [] all apart = tt
names_apart P f differ (key ∷ keys) all apart = (
  (λ i. let found = in_names f keys (f key).1 i in
      let same : key ≡ found.0 = differ key found.0 all.0 (all_in P keys all.1 found.0 found.1) found.2 in
      apart.0 (subst (λ (z : ℕ × ℕ). In z keys) (sym same) found.1)),
  names_apart P f differ keys all.1 apart.1,
)

-- a pair among numbers from low on, each beside some
pub in_beside_of : (first : ℕ) (seconds : List ℕ) (second : ℕ) → In second seconds → In (first, second) (beside first seconds)
in_beside_of first [] second i = absurd i
in_beside_of first (x ∷ xs) second (inl e) = inl (ap (λ (z : ℕ). (first, z)) e)
in_beside_of first (x ∷ xs) second (inr i) = inr (in_beside_of first xs second i)

-- what is in the first list is in both
pub in_front : {X : Type 0} (x : X) (xs ys : List X) → In x xs → In x (xs ++ ys)
in_front x [] ys i = absurd i
in_front x (z ∷ xs) ys (inl e) = inl e
in_front x (z ∷ xs) ys (inr i) = inr (in_front x xs ys i)

-- so is what is in the second
pub in_back : {X : Type 0} (x : X) (xs ys : List X) → In x ys → In x (xs ++ ys)
in_back x [] ys i = i
in_back x (z ∷ xs) ys i = inr (in_back x xs ys i)

-- so far as the first is in the range
pub in_grid_of : (seconds : ℕ → List ℕ) (low count first second : ℕ) → low ≤ first → first < low + count → In second (seconds first) → In (first, second) (flat_map (λ k. beside k (seconds k)) (range_with_len low count))
in_grid_of seconds low zero first second l r i = absurd (omega (arith, l, r))
in_grid_of seconds low (suc count) first second l r i = elim (eqb_tells low first) [
  | inl same ↦
      in_front (first, second) (beside low (seconds low)) (flat_map (λ k. beside k (seconds k)) (range_with_len (low + 1) count))
      (subst (λ (k : ℕ). In (first, second) (beside k (seconds k))) (sym same.1) (in_beside_of first (seconds first) second i))
  | inr other ↦
      in_back (first, second) (beside low (seconds low)) (flat_map (λ k. beside k (seconds k)) (range_with_len (low + 1) count))
      (in_grid_of seconds (low + 1) count first second (let apart = other.1 in omega (arith, l, apart)) (omega (arith, r)) i)
]
