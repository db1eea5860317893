-- What a binary search says of a rising list.
use Rattle.std.proofs.Common.{◌≡◌, ℕ, zero, suc, ◌+◌, ◌<◌, ◌≤◌, Bool, true, false, List, [], ◌∷◌, slice_get, Option, None, Some, IfSome, length, get_or, refl, sym, ap, ◌∙◌, arith, rules, inl, inr, ◌⊎◌}
use Rattle.std.specs.Prelude.{ℤ, ◌<ℤ◌, Contains, is_some, Result, Ok, Err}
use Rattle.std.specs.Result.{result_ok}
use Rattle.std.specs.List.Sorted.{IsSorted, IsSearchInRange, IsBinarySearchResult, IsStrictlySortedBy}
use Rattle.std.specs.Ordering.{int_cmp, is_lt}
use Rattle.std.specs.declared.cmp.Ordering.TheVariants.{Less, Equal}
use Rattle.std.proofs.lemmas.Cmp.{int_cmp_total}
use Rattle.std.proofs.lemmas.Int.{ints}
use Rattle.std.proofs.lemmas.Option.{get_or_from_slice_get}
use Rattle.std.proofs.lemmas.List.Sorted.{searchable_from_sorted}
use Rattle.std.proofs.lemmas.Map.Keys.{Less-from_sorted}
use Rattle.dcsp_domain.specs.Sets.{IsRising, has}
use Rattle.dcsp_domain.proofs.Rising.{has_decides}

not_less : (x y : ℤ) → x <ℤ y → is_lt (int_cmp y x) ≡ false
not_less x y h = grind (arith, ints)

equal_is : (x y : ℤ) → int_cmp x y ≡ Equal → x ≡ y
equal_is x y h = grind (arith, ints)

less_is : (x y : ℤ) → int_cmp x y ≡ Less → x <ℤ y
less_is x y h = grind (arith, ints)

itself_is : (x : ℤ) → int_cmp x x ≡ Equal
itself_is x = grind (arith, ints)

-- a rising list is sorted
pub sorted_from_rising : (xs : List ℤ) → IsRising xs → IsSorted int_cmp xs
sorted_from_rising xs up = λ k d l h. not_less _ _ (up k (k + 1) d (omega arith) h)

-- a strictly sorted list rises
pub rising_from_sorted : (xs : List ℤ) → IsStrictlySortedBy int_cmp xs → IsRising xs
rising_from_sorted xs up = λ i j d l h. less_is _ _ (Less-from_sorted int_cmp xs i j d up l h)

-- a search finds a value exactly where the list has it
pub search_finds : (xs : List ℤ) (v : ℤ) (r : Result ℕ ℕ) → IsRising xs → IsSearchInRange r (length xs) → IsBinarySearchResult (λ y. int_cmp y v) xs r → is_some (result_ok r) ≡ has xs v
search_finds xs v (Ok i) up bound found = sym ((has_decides xs v).1 (i, bound, equal_is _ _ (found v)))
search_finds xs v (Err i) up bound split =
    let parts = split (searchable_from_sorted int_cmp_total (λ (x : ℤ). x) xs v (sorted_from_rising xs up)) in
    let nowhere : Contains xs v → ⊥ = λ c.
    let side : (c.0 < i) ⊎ (i ≤ c.0) = search rules in
    let here : int_cmp (get_or xs c.0 v) v ≡ Equal = ap (λ z. int_cmp z v) c.2 ∙ itself_is v in
    elim side [
      | inl before ↦ let less = parts.0 c.0 v (omega arith) before in cc
      | inr after ↦ let more = parts.1 c.0 v after c.1 in cc
    ]
    in absent (has xs v) refl nowhere where
      absent : (t : Bool) → has xs v ≡ t → (Contains xs v → ⊥) → false ≡ t
      absent false e nowhere = refl
      absent true e nowhere = absurd (nowhere ((has_decides xs v).0 e))

within : (xs : List ℤ) (k : ℕ) (v : ℤ) → slice_get xs k ≡ Some v → k < length xs
within [] k v h = absurd cc
within (x ∷ xs) zero v h = omega arith
within (x ∷ xs) (suc k) v h = let l = within xs k v h in omega (arith, l)

-- a value that stands at a place is one of the list's
pub found_there : (xs : List ℤ) (v : ℤ) (place : Option ℕ) → is_some place ≡ true → IfSome place (λ k. slice_get xs k ≡ Some v) → is_some place ≡ has xs v
found_there xs v None e h = absurd cc
found_there xs v (Some k) e h = sym ((has_decides xs v).1 (k, within xs k v h, get_or_from_slice_get xs k v v h))
