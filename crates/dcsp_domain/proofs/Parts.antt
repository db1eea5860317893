-- Parts of rising lists: those below and above a bound, and parts of parts.
use Rattle.std.proofs.Common.{◌≡◌, ℕ, zero, suc, ◌+◌, ◌-◌, ◌<◌, ◌≤◌, Bool, true, false, List, [], ◌∷◌, length, get_or, take, drop, refl, sym, ap, ◌∙◌, subst, arith, rules, inl, inr, ◌⊎◌}
use Rattle.std.specs.Prelude.{ℤ, ◌<ℤ◌, Ok, Err, filter, int_lt, slice_range}
use Rattle.std.specs.List.Sorted.{IsSearchInRange, IsBinarySearchResult}
use Rattle.std.specs.Ordering.{int_cmp}
use Rattle.std.specs.declared.cmp.Ordering.TheVariants.{Less, Equal, Greater}
use Rattle.std.proofs.lemmas.Cmp.{int_cmp_total}
use Rattle.std.proofs.lemmas.Int.{ints}
use Rattle.std.proofs.lemmas.List.{drop-take, get_or-drop, get_or-take, length-drop, length-take, take-take}
use Rattle.std.proofs.lemmas.List.Sorted.{searchable_from_sorted}
use Rattle.std.proofs.Math.Seq.{drop-nil}
use Rattle.dcsp_domain.specs.Sets.{IsRising, IsDomain, IsPart}
use Rattle.dcsp_domain.proofs.Searches.{sorted_from_rising}

none_pass : (p : ℤ → Bool) (xs : List ℤ) → ((k : ℕ) (d : ℤ) → k < length xs → p (get_or xs k d) ≡ false) → filter p xs ≡ []
none_pass p [] fail = refl
none_pass p (x ∷ xs) fail = rw (fail 0 x (omega arith)) (none_pass p xs (λ k d l. fail (suc k) d (omega (arith, l))))

all_pass : (p : ℤ → Bool) (xs : List ℤ) → ((k : ℕ) (d : ℤ) → k < length xs → p (get_or xs k d) ≡ true) → filter p xs ≡ xs
all_pass p [] pass = refl
all_pass p (x ∷ xs) pass = rw (pass 0 x (omega arith)) (ap (λ z. x ∷ z) (all_pass p xs (λ k d l. pass (suc k) d (omega (arith, l)))))

-- where those before a place pass and no others do, these are the ones that pass
front_passes : (p : ℤ → Bool) (xs : List ℤ) (i : ℕ) → ((k : ℕ) (d : ℤ) → k < i → k < length xs → p (get_or xs k d) ≡ true) → ((k : ℕ) (d : ℤ) → i ≤ k → k < length xs → p (get_or xs k d) ≡ false)
    → take i xs ≡ filter p xs
front_passes p [] zero pass fail = refl
front_passes p [] (suc i) pass fail = refl
front_passes p (x ∷ xs) zero pass fail = sym (none_pass p (x ∷ xs) (λ k d l. fail k d (omega arith) l))
front_passes p (x ∷ xs) (suc i) pass fail =
    rw (pass 0 x (omega arith) (omega arith))
    (ap (λ z. x ∷ z) (front_passes p xs i (λ k d b l. pass (suc k) d (omega (arith, b)) (omega (arith, l))) (λ k d b l. fail (suc k) d (omega (arith, b)) (omega (arith, l)))))

-- where those from a place on pass and no others do, these are the ones that pass
rest_passes : (p : ℤ → Bool) (xs : List ℤ) (i : ℕ) → ((k : ℕ) (d : ℤ) → k < i → k < length xs → p (get_or xs k d) ≡ false) → ((k : ℕ) (d : ℤ) → i ≤ k → k < length xs → p (get_or xs k d) ≡ true)
    → drop i xs ≡ filter p xs
rest_passes p [] zero fail pass = refl
rest_passes p [] (suc i) fail pass = refl
rest_passes p (x ∷ xs) zero fail pass = sym (all_pass p (x ∷ xs) (λ k d l. pass k d (omega arith) l))
rest_passes p (x ∷ xs) (suc i) fail pass =
    rw (fail 0 x (omega arith) (omega arith))
    (rest_passes p xs i (λ k d b l. fail (suc k) d (omega (arith, b)) (omega (arith, l))) (λ k d b l. pass (suc k) d (omega (arith, b)) (omega (arith, l))))

below_is : (x y : ℤ) → x <ℤ y → int_lt x y ≡ true
below_is x y h = grind (arith, ints)

not_below : (x y : ℤ) → y <ℤ x → int_lt x y ≡ false
not_below x y h = grind (arith, ints)

not_itself : (x : ℤ) → int_lt x x ≡ false
not_itself x = grind (arith, ints)

less_is : (x y : ℤ) → int_cmp x y ≡ Less → x <ℤ y
less_is x y h = grind (arith, ints)

greater_is : (x y : ℤ) → int_cmp x y ≡ Greater → y <ℤ x
greater_is x y h = grind (arith, ints)

equal_is : (x y : ℤ) → int_cmp x y ≡ Equal → x ≡ y
equal_is x y h = grind (arith, ints)

-- what stands at the place of a value that was found, and around it
record IsAround (xs : List ℤ) (v : ℤ) (place behind : ℕ) : Type 0 where
  before : (k : ℕ) (d : ℤ) → k < place → k < length xs → get_or xs k d <ℤ v
  here : (k : ℕ) (d : ℤ) → place ≤ k → k < behind → k < length xs → get_or xs k d ≡ v
  after : (k : ℕ) (d : ℤ) → behind ≤ k → k < length xs → v <ℤ get_or xs k d

front_is : (xs : List ℤ) (v : ℤ) (place behind : ℕ) → IsAround xs v place behind → take place xs ≡ filter (λ x. int_lt x v) xs
front_is xs v place behind around = front_passes (λ x. int_lt x v) xs place
    (λ k d b l. below_is _ _ (around.before k d b l))
    (λ k d b l. at_or_after k d b l) where
      at_or_after : (k : ℕ) (d : ℤ) → place ≤ k → k < length xs → int_lt (get_or xs k d) v ≡ false
      at_or_after k d b l =
          let side : (k < behind) ⊎ (behind ≤ k) = search rules in
          elim side [
            | inl near ↦ rw (around.here k d b near l) (not_itself v)
            | inr far ↦ not_below _ _ (around.after k d far l)
          ]

rest_is : (xs : List ℤ) (v : ℤ) (place behind : ℕ) → IsAround xs v place behind → drop behind xs ≡ filter (λ x. int_lt v x) xs
rest_is xs v place behind around = rest_passes (λ x. int_lt v x) xs behind
    (λ k d b l. before_or_at k d b l)
    (λ k d b l. below_is _ _ (around.after k d b l)) where
      before_or_at : (k : ℕ) (d : ℤ) → k < behind → k < length xs → int_lt v (get_or xs k d) ≡ false
      before_or_at k d b l =
          let side : (k < place) ⊎ (place ≤ k) = search rules in
          elim side [
            | inl near ↦ not_below _ _ (around.before k d near l)
            | inr far ↦ rw (around.here k d far b l) (not_itself v)
          ]

-- a value that was found
around_found : (xs : List ℤ) (v : ℤ) (i : ℕ) → IsRising xs → IsSearchInRange (Ok i) (length xs) → IsBinarySearchResult (λ y. int_cmp y v) xs (Ok i) → IsAround xs v i (i + 1)
around_found xs v i up bound found = record {
  before = λ k d b l. rw (sym (same d)) (up k i d b bound);
  here = λ k d a b l. let e : k ≡ i = omega (arith, a, b) in rw e (same d);
  after = λ k d b l. rw (sym (same d)) (up i k d (omega (arith, b)) l);
} where
  same : (d : ℤ) → get_or xs i d ≡ v
  same d = equal_is _ _ (found d)

-- a value that is not there
around_missing : (xs : List ℤ) (v : ℤ) (i : ℕ) → IsRising xs → IsBinarySearchResult (λ y. int_cmp y v) xs (Err i) → IsAround xs v i i
around_missing xs v i up split_at =
    let parts = split_at (searchable_from_sorted int_cmp_total (λ (x : ℤ). x) xs v (sorted_from_rising xs up)) in
    record {
      before = λ k d b l. less_is _ _ (parts.0 k d (omega arith) b);
      here = λ k d a b l. absurd (omega (arith, a, b));
      after = λ k d b l. greater_is _ _ (parts.1 k d b l);
    }

pub front_found : (xs : List ℤ) (v : ℤ) (i : ℕ) → IsRising xs → IsSearchInRange (Ok i) (length xs) → IsBinarySearchResult (λ y. int_cmp y v) xs (Ok i) → take i xs ≡ filter (λ x. int_lt x v) xs
front_found xs v i up bound found = front_is xs v i (i + 1) (around_found xs v i up bound found)

pub front_missing : (xs : List ℤ) (v : ℤ) (i : ℕ) → IsRising xs → IsBinarySearchResult (λ y. int_cmp y v) xs (Err i) → take i xs ≡ filter (λ x. int_lt x v) xs
front_missing xs v i up found = front_is xs v i i (around_missing xs v i up found)

pub rest_found : (xs : List ℤ) (v : ℤ) (i : ℕ) → IsRising xs → IsSearchInRange (Ok i) (length xs) → IsBinarySearchResult (λ y. int_cmp y v) xs (Ok i) → drop (i + 1) xs ≡ filter (λ x. int_lt v x) xs
rest_found xs v i up bound found = rest_is xs v i (i + 1) (around_found xs v i up bound found)

pub rest_missing : (xs : List ℤ) (v : ℤ) (i : ℕ) → IsRising xs → IsBinarySearchResult (λ y. int_cmp y v) xs (Err i) → drop i xs ≡ filter (λ x. int_lt v x) xs
rest_missing xs v i up found = rest_is xs v i i (around_missing xs v i up found)

drop_drop : (m n : ℕ) (xs : List ℤ) → drop m (drop n xs) ≡ drop (n + m) xs
drop_drop m zero xs = let e : m ≡ 0 + m = omega arith in ap (λ z. drop z xs) e
drop_drop m (suc n) [] = drop-nil m ∙ sym (drop-nil (suc n + m))
drop_drop m (suc n) (x ∷ xs) = let e : suc (n + m) ≡ suc n + m = omega arith in drop_drop m n xs ∙ ap (λ z. drop z (x ∷ xs)) e

-- a part of a part is a part
pub part_of_part : (xs : List ℤ) (a b c d : ℕ) → a ≤ b → c ≤ d → d ≤ b - a → slice_range xs (a + c) (a + d) ≡ slice_range (slice_range xs a b) c d
part_of_part xs a b c d ab cd db =
    let inner = drop-take c (b - a - c) (drop a xs) in
    let ends : c + (b - a - c) ≡ b - a = omega (arith, cd, db) in
    let cut = ap (λ z. drop c (take z (drop a xs))) (sym ends) ∙ inner in
    let many : a + d - (a + c) ≡ d - c = omega arith in
    let joined = drop_drop c a xs in
    let shorter = take-take (d - c) (b - a - c) (drop c (drop a xs)) (omega (arith, cd, db)) in
    rw many (rw (sym joined) (sym (ap (λ z. take (d - c) z) cut ∙ shorter)))

pub length_of_part : (xs : List ℤ) (a b : ℕ) → a ≤ b → b ≤ length xs → length (slice_range xs a b) ≡ b - a
length_of_part xs a b ab bl =
    let one = length-take (b - a) (drop a xs) in
    let other = length-drop a xs in
    omega (arith, one, other, ab, bl)

at_part : (xs : List ℤ) (a b i : ℕ) (d : ℤ) → i < b - a → get_or (slice_range xs a b) i d ≡ get_or xs (a + i) d
at_part xs a b i d l = get_or-take (b - a) (drop a xs) i d l ∙ get_or-drop a xs i d

-- a part of rising numbers rises
rising_part : (xs : List ℤ) (a b : ℕ) → a ≤ b → b ≤ length xs → IsRising xs → IsRising (slice_range xs a b)
rising_part xs a b ab bl up = λ i j d l h.
    let many = length_of_part xs a b ab bl in
    let first = at_part xs a b i d (omega (arith, l, h, many)) in
    let second = at_part xs a b j d (omega (arith, h, many)) in
    rw first (rw second (up (a + i) (a + j) d (omega (arith, l)) (omega (arith, h, many, ab, bl))))

pub domain_of_part : (xs : List ℤ) (a b : ℕ) → a ≤ b → b ≤ length xs → IsDomain xs → IsDomain (slice_range xs a b)
domain_of_part xs a b ab bl of = record {
  rising = rising_part xs a b ab bl of.rising;
  small = let many = length_of_part xs a b ab bl in let most = of.small in omega (arith, many, most, ab, bl);
}

-- an end within a part is within its length
fits_part : (xs part : List ℤ) (a b d : ℕ) → slice_range xs a b ≡ part → IsPart xs a b → d ≤ length part → d ≤ b - a
fits_part xs part a b d is of l =
    let many = length_of_part xs a b of.order of.within in
    let same = ap length is in
    omega (arith, many, same, l)

-- what is said of a part of a domain's values
pub part_is : (xs part : List ℤ) (a b c d : ℕ) → slice_range xs a b ≡ part → IsPart xs a b → c ≤ d → d ≤ length part → slice_range xs (a + c) (a + d) ≡ slice_range part c d
part_is xs part a b c d is of cd l =
    part_of_part xs a b c d of.order cd (fits_part xs part a b d is of l) ∙ ap (λ z. slice_range z c d) is

pub is_part : (xs part : List ℤ) (a b c d : ℕ) → slice_range xs a b ≡ part → IsPart xs a b → c ≤ d → d ≤ length part → IsPart xs (a + c) (a + d)
is_part xs part a b c d is of cd l =
    let fits = fits_part xs part a b d is of l in
    record {
      order = omega (arith, cd);
      within = let w = of.within in let o = of.order in omega (arith, w, o, fits);
      domain = subst (λ (z : List ℤ). IsDomain z) (sym (part_is xs part a b c d is of cd l))
          (domain_of_part part c d cd l (subst (λ (z : List ℤ). IsDomain z) is of.domain));
    }
