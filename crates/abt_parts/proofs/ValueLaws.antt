-- Entries whose values rise.
use Rattle.std.proofs.Common.{◌≡◌, ◌≢◌, ℕ, zero, suc, ◌+◌, ◌-◌, ◌<◌, ℤ, ◌<ℤ◌, ◌≤ℤ◌, Bool, true, false, cond, ◌&&◌, ◌⊎◌, List, [], ◌∷◌, length, get_or, set, Some, None, Result, Ok, Err, refl, sym, ap, ◌∙◌, arith, inl, inr, subst}
use Rattle.std.specs.Prelude.{IfOk, IfErr, is_some}
use Rattle.std.specs.List.{insert, remove}
use Rattle.std.specs.List.Sorted.{IsSearchInRange, IsBinarySearchResult, IsNonDecreasingBy}
use Rattle.std.specs.Ordering.{int_cmp, int_eq, ordering_index}
use Rattle.std.proofs.lemmas.Cmp.{int_ranked}
use Rattle.std.proofs.lemmas.Int.{ints}
use Rattle.std.proofs.lemmas.List.Edits.{get_or-insert_above, get_or-insert_at, get_or-insert_below, length-insert}
use Rattle.std.proofs.lemmas.List.Sorted.{IsNonDecreasingBy-from_default}
use Rattle.std.proofs.lemmas.Bool.{cases_eq, cases_lt}
use Rattle.std.proofs.lemmas.Bool.Decides.{Decides-int_eq, not_from_Decides}
use Rattle.abt_parts.specs.declared.value_places.ValuePlace.{ValuePlace}
use Rattle.abt_parts.specs.Values.{no_entry, place_for, value_at, AreRising, BelongsAt}

same_value : (a b : ℤ) → a ≡ b → int_eq a b ≡ true
same_value a b same = (Decides-int_eq a b).1 same

cases_value : (a b : ℤ) → (a ≡ b) ⊎ (a ≢ b)
cases_value a b = by_test (int_eq a b) refl where
  by_test : (t : Bool) → int_eq a b ≡ t → (a ≡ b) ⊎ (a ≢ b)
  by_test true e = inl ((Decides-int_eq a b).0 e)
  by_test false e = inr (not_from_Decides (int_eq a b) (Decides-int_eq a b) e)

other_value : (a b : ℤ) → a ≢ b → int_eq a b ≡ false
other_value a b other = by_test (int_eq a b) refl where
  by_test : (t : Bool) → int_eq a b ≡ t → int_eq a b ≡ false
  by_test true e = absurd (other ((Decides-int_eq a b).0 e))
  by_test false e = e

less_other : (a b : ℤ) → a <ℤ b → a ≢ b
less_other a b less same = omega (arith, ints, less, same)

-- the first entry is the value's, or is not
here : (x : ValuePlace) (xs : List ValuePlace) (value : ℤ) → x.value ≡ value → place_for (x ∷ xs) value ≡ Some x.place
here x xs value same = ap (λ b. cond b (Some x.place) (place_for xs value)) (same_value x.value value same)

later : (x : ValuePlace) (xs : List ValuePlace) (value : ℤ) → x.value ≢ value → place_for (x ∷ xs) value ≡ place_for xs value
later x xs value other = ap (λ b. cond b (Some x.place) (place_for xs value)) (other_value x.value value other)

-- a value that no entry has
absent : (xs : List ValuePlace) (value : ℤ) → ((k : ℕ) → k < length xs → value_at xs k ≢ value) → place_for xs value ≡ None
absent [] value none = refl
absent (x ∷ xs) value none = later x xs value (none 0 (omega arith)) ∙ absent xs value (λ k l. none (suc k) (omega arith))

tail_rises : (x : ValuePlace) (xs : List ValuePlace) → AreRising (x ∷ xs) → AreRising xs
tail_rises x xs up i j l m = up (suc i) (suc j) (omega arith) (omega arith)

-- the place by the value of an entry
pub place_there : (xs : List ValuePlace) (value : ℤ) (at : ℕ) → AreRising xs → at < length xs → value_at xs at ≡ value → place_for xs value ≡ Some (get_or xs at no_entry).place
place_there [] value at up within is = absurd (omega arith)
place_there (y ∷ ys) value zero up within is = here y ys value is
place_there (y ∷ ys) value (suc at) up within is =
    later y ys value (λ e. less_other y.value (value_at ys at) (up 0 (suc at) (omega arith) within) (e ∙ sym is)) ∙ place_there ys value at (tail_rises y ys up) (omega arith) is

-- where it belongs no entry is the value's
pub not_there : (xs : List ValuePlace) (value : ℤ) (at : ℕ) → BelongsAt xs value at → place_for xs value ≡ None
not_there xs value at belongs = absent xs value (λ k l same. elim (cases_lt k at) [
  | inl low ↦ less_other (value_at xs k) value (belongs.before k low) same
  | inr high ↦ less_other value (value_at xs k) (belongs.after k high l) (sym same)
])

-- one entry more
pub place_more : (xs : List ValuePlace) (at : ℕ) (e : ValuePlace) → place_for xs e.value ≡ None → (other : ℤ) → place_for (insert xs at e) other ≡ cond (int_eq e.value other) (Some e.place) (place_for xs other)
place_more xs zero e none other = refl
place_more [] (suc at) e none other = refl
place_more (y ∷ ys) (suc at) e none other =
    let first : y.value ≢ e.value = λ z. absurd (let h = sym (here y ys e.value z) ∙ none in cc) in
    let rest = place_more ys at e (sym (later y ys e.value first) ∙ none) other in
    elim (cases_value y.value other) [
      | inl same ↦
          here y (insert ys at e) other same ∙ sym (here y ys other same)
          ∙ sym (ap (λ b. cond b (Some e.place) (place_for (y ∷ ys) other)) (other_value e.value other (λ z. first (same ∙ sym z))))
      | inr apart ↦ later y (insert ys at e) other apart ∙ rest ∙ ap (λ o. cond (int_eq e.value other) (Some e.place) o) (sym (later y ys other apart))
    ]

-- one entry less
pub place_less : (xs : List ValuePlace) (at : ℕ) → AreRising xs → at < length xs → (other : ℤ) → place_for (remove xs at) other ≡ cond (int_eq (value_at xs at) other) None (place_for xs other)
place_less [] at up within other = absurd (omega arith)
place_less (y ∷ ys) zero up within other = elim (cases_value y.value other) [
  | inl same ↦
      absent ys other (λ k l e. less_other y.value (value_at ys k) (up 0 (suc k) (omega arith) (omega arith)) (same ∙ sym e))
      ∙ sym (ap (λ b. cond b None (place_for (y ∷ ys) other)) (same_value y.value other same))
  | inr apart ↦ sym (later y ys other apart) ∙ sym (ap (λ b. cond b None (place_for (y ∷ ys) other)) (other_value y.value other apart))
]
place_less (y ∷ ys) (suc at) up within other =
    let rest = place_less ys at (tail_rises y ys up) (omega arith) other in
    elim (cases_value y.value other) [
      | inl same ↦
          let differ : value_at ys at ≢ other = λ z. less_other y.value (value_at ys at) (up 0 (suc at) (omega arith) within) (same ∙ sym z) in
          here y (remove ys at) other same ∙ sym (here y ys other same) ∙ sym (ap (λ b. cond b None (place_for (y ∷ ys) other)) (other_value (value_at ys at) other differ))
      | inr apart ↦ later y (remove ys at) other apart ∙ rest ∙ ap (λ o. cond (int_eq (value_at ys at) other) None o) (sym (later y ys other apart))
    ]

-- the place of an entry is another
place_set : (xs : List ValuePlace) (at : ℕ) (e : ValuePlace) → AreRising xs → at < length xs → e.value ≡ value_at xs at → (other : ℤ) → place_for (set xs at e) other ≡ cond (int_eq e.value other) (Some e.place) (place_for xs other)
place_set [] at e up within is other = absurd (omega arith)
place_set (y ∷ ys) zero e up within is other = elim (cases_value e.value other) [
  | inl same ↦ here e ys other same ∙ sym (ap (λ b. cond b (Some e.place) (place_for (y ∷ ys) other)) (same_value e.value other same))
  | inr apart ↦
      later e ys other apart ∙ sym (later y ys other (λ z. apart (is ∙ z)))
      ∙ sym (ap (λ b. cond b (Some e.place) (place_for (y ∷ ys) other)) (other_value e.value other apart))
]
place_set (y ∷ ys) (suc at) e up within is other =
    let rest = place_set ys at e (tail_rises y ys up) (omega arith) is other in
    elim (cases_value y.value other) [
      | inl same ↦
          let differ : e.value ≢ other = λ z. less_other y.value (value_at ys at) (up 0 (suc at) (omega arith) within) (same ∙ sym z ∙ is) in
          here y (set ys at e) other same ∙ sym (here y ys other same) ∙ sym (ap (λ b. cond b (Some e.place) (place_for (y ∷ ys) other)) (other_value e.value other differ))
      | inr apart ↦ later y (set ys at e) other apart ∙ rest ∙ ap (λ o. cond (int_eq e.value other) (Some e.place) o) (sym (later y ys other apart))
    ]

-- the place of a value that was found is another
pub place_changed : (xs : List ValuePlace) (value : ℤ) (at place : ℕ) (x : ValuePlace) → AreRising xs → (at < length xs) × (value_at xs at ≡ value) → x ≡ get_or xs at no_entry
    → (other : ℤ) → place_for (set xs at (record { value = x.value; place = place })) other ≡ cond (int_eq value other) (Some place) (place_for xs other)
place_changed xs value at place x up found is other =
    let same : x.value ≡ value_at xs at = ap (λ (z : ValuePlace). z.value) is in
    place_set xs at (record { value = x.value; place = place }) up found.0 same other ∙ ap (λ v. cond (int_eq v other) (Some place) (place_for xs other)) (same ∙ found.1)

-- a value that has a place is given another, and no other value is given one
pub only_there : (xs : List ValuePlace) (value : ℤ) (place kept : ℕ) → place_for xs value ≡ Some kept → (other : ℤ) → cond (int_eq value other) (Some place) (place_for xs other) ≡ cond (int_eq value other && is_some (place_for xs other)) (Some place) (place_for xs other)
only_there xs value place kept has other = elim (cases_value value other) [
  | inl same ↦
      let there : is_some (place_for xs other) ≡ true = ap is_some (ap (place_for xs) (sym same) ∙ has) in
      ap (λ b. cond b (Some place) (place_for xs other)) (same_value value other same)
      ∙ sym (ap (λ b. cond (b && is_some (place_for xs other)) (Some place) (place_for xs other)) (same_value value other same) ∙ ap (λ b. cond b (Some place) (place_for xs other)) there)
  | inr apart ↦
      ap (λ b. cond b (Some place) (place_for xs other)) (other_value value other apart)
      ∙ sym (ap (λ b. cond (b && is_some (place_for xs other)) (Some place) (place_for xs other)) (other_value value other apart))
]

-- a value that has none stays so
pub none_set : (xs : List ValuePlace) (value : ℤ) (place : ℕ) → place_for xs value ≡ None → (other : ℤ) → place_for xs other ≡ cond (int_eq value other && is_some (place_for xs other)) (Some place) (place_for xs other)
none_set xs value place none other = elim (cases_value value other) [
  | inl same ↦
      let gone : place_for xs other ≡ None = ap (place_for xs) (sym same) ∙ none in
      gone ∙ sym (ap (λ o. cond (int_eq value other && is_some o) (Some place) o) gone ∙ ap (λ b. cond (b && false) (Some place) None) (same_value value other same))
  | inr apart ↦ sym (ap (λ b. cond (b && is_some (place_for xs other)) (Some place) (place_for xs other)) (other_value value other apart))
]

pub none_removed : (xs : List ValuePlace) (value : ℤ) → place_for xs value ≡ None → (other : ℤ) → place_for xs other ≡ cond (int_eq value other) None (place_for xs other)
none_removed xs value none other = elim (cases_value value other) [
  | inl same ↦ ap (place_for xs) (sym same) ∙ none ∙ sym (ap (λ b. cond b None (place_for xs other)) (same_value value other same))
  | inr apart ↦ sym (ap (λ b. cond b None (place_for xs other)) (other_value value other apart))
]

-- an entry is put where it belongs
module _ (xs : List ValuePlace) (at : ℕ) (e : ValuePlace) (fits : BelongsAt xs e.value at) where
  abbrev new : List ValuePlace
  new = insert xs at e

  value_before : (k : ℕ) → k < at → value_at new k ≡ value_at xs k
  value_before k l = ap (λ (x : ValuePlace). x.value) (get_or-insert_below xs at e no_entry k l fits.within)

  value_here : value_at new at ≡ e.value
  value_here = ap (λ (x : ValuePlace). x.value) (get_or-insert_at xs at e no_entry fits.within)

  value_after : (k : ℕ) → at < k → value_at new k ≡ value_at xs (k - 1)
  value_after k l =
      let is : (k - 1) + 1 ≡ k = omega arith in
      rw is at (ap (λ (x : ValuePlace). x.value) (get_or-insert_above xs at e no_entry (k - 1) (omega arith) fits.within))

  rising_more : AreRising xs → AreRising new
  rising_more up i j l m =
      let size : length new ≡ length xs + 1 = length-insert xs at e fits.within in
      let within = fits.within in
      elim (cases_lt i at) [
        | inl low ↦ elim (cases_lt j at) [
          | inl both ↦ less (value_before i low) (value_before j both) (up i j l (omega arith))
          | inr high ↦ elim (cases_eq j at) [
            | inl is ↦ less (value_before i low) (ap (value_at new) is ∙ value_here) (fits.before i low)
            | inr past ↦ less (value_before i low) (value_after j (omega arith)) (up i (j - 1) (omega arith) (omega arith))
          ]
        ]
        | inr high ↦ elim (cases_eq i at) [
          | inl is ↦ less (ap (value_at new) is ∙ value_here) (value_after j (omega arith)) (fits.after (j - 1) (omega arith) (omega arith))
          | inr past ↦ less (value_after i (omega arith)) (value_after j (omega arith)) (up (i - 1) (j - 1) (omega arith) (omega arith))
        ]
      ]
    where
      less : {a b c d : ℤ} → a ≡ c → b ≡ d → c <ℤ d → a <ℤ b
      less {a} {b} {c} {d} first second rise = subst (λ z. z <ℤ b) (sym first) (subst (λ z. c <ℤ z) (sym second) rise)

-- the entries rise whether it was put there or not
pub rising_tried : (xs now : List ValuePlace) (at : ℕ) (e : ValuePlace) → BelongsAt xs e.value at → AreRising xs → (put : Bool) → now ≡ cond put (insert xs at e) xs → AreRising now
rising_tried xs now at e fits up true is = subst AreRising (sym is) (rising_more xs at e fits up)
rising_tried xs now at e fits up false is = subst AreRising (sym is) up

module _ (xs : List ValuePlace) (up : AreRising xs) (value : ℤ) where
  -- the comparisons with a value rise along the list, as a binary search asks
  comparisons_rise : IsNonDecreasingBy (λ (x : ValuePlace). ordering_index (int_cmp x.value value)) xs
  comparisons_rise = IsNonDecreasingBy-from_default (λ (x : ValuePlace). ordering_index (int_cmp x.value value)) xs no_entry (λ i j le within.
      let rise : value_at xs i ≤ℤ value_at xs j = elim (cases_eq i j) [
        | inl same ↦ subst (λ k. value_at xs i ≤ℤ value_at xs k) same (omega (arith, ints))
        | inr apart ↦ let up_to = up i j (omega arith) within in omega (arith, ints, up_to)
      ] in
      grind (arith, ints))

  pub found : (r : Result ℕ ℕ) → IsSearchInRange r (length xs) → IsBinarySearchResult (λ (x : ValuePlace). int_cmp x.value value) xs r → IfOk r (λ at. (at < length xs) × (value_at xs at ≡ value))
  found (Ok at) within equal = (within, int_ranked _ value _ (sym (equal no_entry)))
  found (Err at) within parted = tt

  pub belongs : (r : Result ℕ ℕ) → IsSearchInRange r (length xs) → IsBinarySearchResult (λ (x : ValuePlace). int_cmp x.value value) xs r → IfErr r (BelongsAt xs value)
  belongs (Ok at) within equal = tt
  belongs (Err at) within parted = record {
    within = within;
    before = λ k l. int_ranked _ value _ (sym ((parted comparisons_rise).0 k no_entry (omega arith) l));
    after = λ k l m. int_ranked _ value _ (sym ((parted comparisons_rise).1 k no_entry l m));
  }
