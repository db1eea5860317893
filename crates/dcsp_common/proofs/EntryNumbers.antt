-- Entries whose numbers rise.
use Rattle.std.proofs.Common.{◌≡◌, ◌≢◌, ℕ, zero, suc, ◌+◌, ◌-◌, ◌<◌, ◌≤◌, ◌==◌, cond, List, [], ◌∷◌, ◌++◌, length, get_or, get_or-set_other, get_or-set_same, set, take, drop, Some, None, Result, Ok, Err, refl, sym, ap, ◌∙◌, arith, inl, inr}
use Rattle.std.specs.Prelude.{IfOk, IfErr, if◌then◌else◌}
use Rattle.std.specs.List.Sorted.{IsSearchInRange, IsBinarySearchResult, IsNonDecreasingBy}
use Rattle.std.specs.Ordering.{nat_cmp, ordering_index}
use Rattle.std.proofs.lemmas.Cmp.{ranked}
use Rattle.std.proofs.lemmas.List.{ext_get_or, get_or_append_left, length-set}
use Rattle.std.proofs.lemmas.List.Edits.{get_or-insert_above, get_or-insert_at, get_or-insert_below, length-insert}
use Rattle.std.specs.List.{insert, CopiedTo, SameBelow}
use Rattle.std.proofs.lemmas.List.Sorted.{IsNonDecreasingBy-from_default}
use Rattle.std.proofs.lemmas.Bool.Decides.{nat_tests}
use Rattle.std.proofs.lemmas.Bool.{cases_eq, cases_lt, eq-eqb, ne_eqb}
use Rattle.dcsp_common.specs.declared.entries.Entry.{Entry}
use Rattle.dcsp_common.specs.Entries.{number_at, item_for, AreBelow, AreRising, BelongsAt, HasRoomFor}

module _ {T : Type 0} where
  -- the number of the entry at a place
  pub number_is : (xs : List (Entry T)) (k : ℕ) (x : Entry T) → k < length xs → number_at xs k ≡ (get_or xs k x).number
  number_is [] k x within = absurd (omega arith)
  number_is (y ∷ ys) zero x within = refl
  number_is (y ∷ ys) (suc k) x within = number_is ys k x (omega arith)

  -- the first entry is the number's, or is not
  here : (x : Entry T) (xs : List (Entry T)) (number : ℕ) → x.number ≡ number → item_for (x ∷ xs) number ≡ Some x.item
  here x xs number same = ap (λ b. cond b (Some x.item) (item_for xs number)) (eq-eqb x.number number same)

  later : (x : Entry T) (xs : List (Entry T)) (number : ℕ) → x.number ≢ number → item_for (x ∷ xs) number ≡ item_for xs number
  later x xs number other = ap (λ b. cond b (Some x.item) (item_for xs number)) (ne_eqb x.number number other)

  -- a number that stands at no place has no item
  pub absent : (xs : List (Entry T)) (number : ℕ) → ((k : ℕ) → k < length xs → number_at xs k ≢ number) → item_for xs number ≡ None
  absent [] number none = refl
  absent (x ∷ xs) number none = later x xs number (none 0 (omega arith)) ∙ absent xs number (λ k l. none (suc k) (omega arith))

  tail_rises : (x : Entry T) (xs : List (Entry T)) → AreRising (x ∷ xs) → AreRising xs
  tail_rises x xs up k l = let e : suc k + 1 ≡ suc (k + 1) = omega arith in rw e at (up (suc k) (omega arith))

  -- a later number is greater
  rises : (xs : List (Entry T)) → AreRising xs → (i n : ℕ) → i + n + 1 < length xs → number_at xs i < number_at xs (i + n + 1)
  rises xs up i zero l = let e : i + 0 + 1 ≡ i + 1 = omega arith in rw e (up i (omega arith))
  rises xs up i (suc n) l =
      let e : i + suc n + 1 ≡ (i + n + 1) + 1 = omega arith in
      let next = up (i + n + 1) (omega arith) in
      let before = rises xs up i n (omega arith) in
      rw e (omega arith)

  rises_between : (xs : List (Entry T)) → AreRising xs → (i j : ℕ) → i < j → j < length xs → number_at xs i < number_at xs j
  rises_between xs up i j lt within = let e : i + (j - i - 1) + 1 ≡ j = omega arith in rw e at (rises xs up i (j - i - 1) (rw e within))

  -- a number is no less than its place
  place_below : (xs : List (Entry T)) → AreRising xs → (k : ℕ) → k < length xs → k ≤ number_at xs k
  place_below xs up zero l = omega arith
  place_below xs up (suc k) l =
      let before = place_below xs up k (omega arith) in
      let next = rises_between xs up k (suc k) (omega arith) l in
      omega arith

  -- the item of the number at a place
  pub item_there : (xs : List (Entry T)) (number place : ℕ) (x : Entry T) → AreRising xs → place < length xs → number_at xs place ≡ number → item_for xs number ≡ Some (get_or xs place x).item
  item_there [] number place x up within is = absurd (omega arith)
  item_there (y ∷ ys) number zero x up within is = here y ys number is
  item_there (y ∷ ys) number (suc place) x up within is =
      let less = rises_between (y ∷ ys) up 0 (suc place) (omega arith) within in
      later y ys number (omega (arith, less, is)) ∙ item_there ys number place x (tail_rises y ys up) (omega arith) is

  module _ (xs : List (Entry T)) (up : AreRising xs) (number : ℕ) (none : Entry T) where
    -- the comparisons with a number rise along the list, as a binary search asks
    comparisons_rise : IsNonDecreasingBy (λ (x : Entry T). ordering_index (nat_cmp x.number number)) xs
    comparisons_rise = IsNonDecreasingBy-from_default (λ (x : Entry T). ordering_index (nat_cmp x.number number)) xs none (λ i j le within.
        let rise : number_at xs i ≤ number_at xs j = grind (arith, rises_between xs up i j, λ (same : i ≡ j). ap (number_at xs) same) in
        let first = number_is xs i none (omega arith) in
        let second = number_is xs j none within in
        grind (arith, nat_tests))

    searched_found : (r : Result ℕ ℕ) → IsSearchInRange r (length xs) → IsBinarySearchResult (λ (x : Entry T). nat_cmp x.number number) xs r → IfOk r (λ place. (place < length xs) × (number_at xs place ≡ number))
    searched_found (Ok at) within equal = (within, number_is xs at none within ∙ ranked _ number _ (sym (equal none)))
    searched_found (Err at) within parted = tt

    searched_absent : (r : Result ℕ ℕ) → IsSearchInRange r (length xs) → IsBinarySearchResult (λ (x : Entry T). nat_cmp x.number number) xs r → IfErr r (BelongsAt xs number)
    searched_absent (Ok at) within equal = tt
    searched_absent (Err at) within parted = record {
      within = within;
      before = λ k l. let is = number_is xs k none (omega arith) in let low = ranked _ number _ (sym ((parted comparisons_rise).0 k none (omega arith) l)) in omega (arith, is, low);
      after = λ k l m. let is = number_is xs k none m in let high = ranked _ number _ (sym ((parted comparisons_rise).1 k none l m)) in omega (arith, is, high);
    }

  -- the same without an entry at hand
  pub found : (xs : List (Entry T)) (number : ℕ) (r : Result ℕ ℕ) → AreRising xs → IsSearchInRange r (length xs) → IsBinarySearchResult (λ (x : Entry T). nat_cmp x.number number) xs r → IfOk r (λ place. (place < length xs) × (number_at xs place ≡ number))
  found [] number (Ok at) up within equal = absurd (omega (arith, within))
  found [] number (Err at) up within parted = tt
  found (x ∷ xs) number r up within is = searched_found (x ∷ xs) up number x r within is

  pub belongs : (xs : List (Entry T)) (number : ℕ) (r : Result ℕ ℕ) → AreRising xs → IsSearchInRange r (length xs) → IsBinarySearchResult (λ (x : Entry T). nat_cmp x.number number) xs r → IfErr r (BelongsAt xs number)
  belongs [] number (Ok at) up within equal = tt
  belongs [] number (Err at) up within parted = record { within = within; before = λ k l. absurd (omega (arith, within)); after = λ k l m. absurd (omega arith) }
  belongs (x ∷ xs) number r up within is = searched_absent (x ∷ xs) up number x r within is

  -- where it belongs no entry is the number's
  pub not_there : (xs : List (Entry T)) (number place : ℕ) → BelongsAt xs number place → item_for xs number ≡ None
  not_there xs number place belongs = absent xs number (λ k l same. elim (cases_lt k place) [ inl low ↦ omega (arith, belongs.before k low, same) | inr high ↦ omega (arith, belongs.after k high l, same) ])

  -- one entry more, first or later
  item_first : (xs : List (Entry T)) (x : Entry T) (i : ℕ) → item_for (x ∷ xs) i ≡ (if i == x.number then Some x.item else item_for xs i)
  item_first xs x i = elim (cases_eq i x.number) [
    | inl same ↦ here x xs i (sym same) ∙ sym (ap (λ b. cond b (Some x.item) (item_for xs i)) (eq-eqb i x.number same))
    | inr other ↦ later x xs i (λ e. other (sym e)) ∙ sym (ap (λ b. cond b (Some x.item) (item_for xs i)) (ne_eqb i x.number other))
  ]

  item_more : (xs : List (Entry T)) (place : ℕ) (x : Entry T) → item_for xs x.number ≡ None → (i : ℕ) → item_for (take place xs ++ x ∷ drop place xs) i ≡ (if i == x.number then Some x.item else item_for xs i)
  item_more xs zero x none i = item_first xs x i
  item_more [] (suc place) x none i = item_first [] x i
  item_more (y ∷ ys) (suc place) x none i =
      let apart : y.number ≢ x.number = λ e. absurd (let h = sym (here y ys x.number e) ∙ none in cc) in
      let others : item_for ys x.number ≡ None = sym (later y ys x.number apart) ∙ none in
      let rest = item_more ys place x others i in
      elim (cases_eq y.number i) [
        | inl same ↦
            let differ : i ≢ x.number = λ e. apart (same ∙ e) in
            here y (take place ys ++ x ∷ drop place ys) i same ∙ sym (here y ys i same) ∙ sym (ap (λ b. cond b (Some x.item) (item_for (y ∷ ys) i)) (ne_eqb i x.number differ))
        | inr apart_too ↦
            later y (take place ys ++ x ∷ drop place ys) i apart_too ∙ rest ∙ ap (λ o. if i == x.number then Some x.item else o) (sym (later y ys i apart_too))
      ]

  -- the item of the entry at a place is another
  number_set : (xs : List (Entry T)) (place : ℕ) (e : Entry T) → place < length xs → e.number ≡ number_at xs place → (k : ℕ) → number_at (set xs place e) k ≡ number_at xs k
  number_set [] place e within is k = absurd (omega arith)
  number_set (y ∷ ys) zero e within is zero = is
  number_set (y ∷ ys) zero e within is (suc k) = refl
  number_set (y ∷ ys) (suc place) e within is zero = refl
  number_set (y ∷ ys) (suc place) e within is (suc k) = number_set ys place e (omega arith) is k

  item_set : (xs : List (Entry T)) (place : ℕ) (e : Entry T) → AreRising xs → place < length xs → e.number ≡ number_at xs place → (i : ℕ) → item_for (set xs place e) i ≡ (if i == e.number then Some e.item else item_for xs i)
  item_set [] place e up within is i = absurd (omega arith)
  item_set (y ∷ ys) zero e up within is i = elim (cases_eq i e.number) [
    | inl same ↦ here e ys i (sym same) ∙ sym (ap (λ b. cond b (Some e.item) (item_for (y ∷ ys) i)) (eq-eqb i e.number same))
    | inr other ↦
        later e ys i (λ z. other (sym z)) ∙ sym (later y ys i (λ z. other (sym z ∙ sym is)))
        ∙ sym (ap (λ b. cond b (Some e.item) (item_for (y ∷ ys) i)) (ne_eqb i e.number other))
  ]
  item_set (y ∷ ys) (suc place) e up within is i =
      let less = rises_between (y ∷ ys) up 0 (suc place) (omega arith) within in
      let rest = item_set ys place e (tail_rises y ys up) (omega arith) is i in
      elim (cases_eq y.number i) [
        | inl same ↦
            let differ : i ≢ e.number = λ z. omega (arith, less, is, same, z) in
            here y (set ys place e) i same ∙ sym (here y ys i same) ∙ sym (ap (λ b. cond b (Some e.item) (item_for (y ∷ ys) i)) (ne_eqb i e.number differ))
        | inr apart ↦ later y (set ys place e) i apart ∙ rest ∙ ap (λ o. if i == e.number then Some e.item else o) (sym (later y ys i apart))
      ]

  rising_set : (xs : List (Entry T)) (place : ℕ) (e : Entry T) → AreRising xs → place < length xs → e.number ≡ number_at xs place → AreRising (set xs place e)
  rising_set xs place e up within is k l =
      let size = length-set xs place e in
      let one = number_set xs place e within is k in
      let two = number_set xs place e within is (k + 1) in
      let rise = up k (omega (arith, l, size)) in
      omega (arith, one, two, rise)

  below_set : (xs : List (Entry T)) (place : ℕ) (e : Entry T) (bound : ℕ) → place < length xs → e.number ≡ number_at xs place → AreBelow bound xs → AreBelow bound (set xs place e)
  below_set xs place e bound within is below k l =
      let size = length-set xs place e in
      let one = number_set xs place e within is k in
      let low = below k (omega (arith, l, size)) in
      omega (arith, one, low)

  -- the item of a number that was found is another
  module _ (xs : List (Entry T)) (number place : ℕ) (x : Entry T) (item : T) (up : AreRising xs) (found : (place < length xs) × (number_at xs place ≡ number)) (is : x ≡ get_or xs place x) where
    abbrev changed : List (Entry T)
    changed = set xs place (record { number = x.number; item = item })

    same_number : x.number ≡ number_at xs place
    same_number = ap (λ (z : Entry T). z.number) is ∙ sym (number_is xs place x found.0)

    pub item_changed : (other : ℕ) → item_for changed other ≡ (if other == number then Some item else item_for xs other)
    item_changed other =
        item_set xs place (record { number = x.number; item = item }) up found.0 same_number other
        ∙ ap (λ n. if other == n then Some item else item_for xs other) (same_number ∙ found.1)

    pub rising_changed : AreRising changed
    rising_changed = rising_set xs place (record { number = x.number; item = item }) up found.0 same_number

    pub below_changed : (bound : ℕ) → AreBelow bound xs → AreBelow bound changed
    below_changed bound below = below_set xs place (record { number = x.number; item = item }) bound found.0 same_number below

  -- an entry is put where it belongs
  module _ (xs : List (Entry T)) (place : ℕ) (e : Entry T) (fits : BelongsAt xs e.number place) where
    abbrev new : List (Entry T)
    new = insert xs place e

    size_more : length new ≡ length xs + 1
    size_more = length-insert xs place e fits.within

    number_before : (k : ℕ) → k < place → number_at new k ≡ number_at xs k
    number_before k l =
        let within = fits.within in let size = size_more in
        number_is new k e (omega arith) ∙ ap (λ (x : Entry T). x.number) (get_or-insert_below xs place e e k l within) ∙ sym (number_is xs k e (omega arith))

    number_here : number_at new place ≡ e.number
    number_here =
        let within = fits.within in let size = size_more in
        number_is new place e (omega arith) ∙ ap (λ (x : Entry T). x.number) (get_or-insert_at xs place e e within)

    number_after : (k : ℕ) → place ≤ k → k < length xs → number_at new (k + 1) ≡ number_at xs k
    number_after k l m =
        let within = fits.within in let size = size_more in
        number_is new (k + 1) e (omega arith) ∙ ap (λ (x : Entry T). x.number) (get_or-insert_above xs place e e k l within) ∙ sym (number_is xs k e m)

    pub rising_more : AreRising xs → AreRising new
    rising_more up k l =
        let size = size_more in
        let within = fits.within in
        elim (cases_lt (k + 1) place) [
          | inl low ↦ let one = number_before k (omega arith) in let two = number_before (k + 1) low in let rise = up k (omega arith) in omega (arith, one, two, rise)
          | inr high ↦ elim (cases_lt k place) [
            | inl last ↦
                let is : k + 1 ≡ place = omega arith in
                let one = number_before k last in let two = number_here in let less = fits.before k last in
                rw is (omega (arith, one, two, less))
            | inr past ↦ elim (cases_lt place k) [
              | inl beyond ↦
                  let is : (k - 1) + 1 ≡ k = omega arith in
                  let one : number_at new k ≡ number_at xs (k - 1) = rw is at (number_after (k - 1) (omega arith) (omega arith)) in
                  let two = number_after k (omega arith) (omega arith) in
                  let rise : number_at xs (k - 1) < number_at xs k = rw is at (up (k - 1) (omega arith)) in
                  omega (arith, one, two, rise)
              | inr at ↦
                  let is : k ≡ place = omega arith in
                  let one : number_at new k ≡ e.number = ap (number_at new) is ∙ number_here in
                  let two = number_after k (omega arith) (omega arith) in
                  let less = fits.after k (omega arith) (omega arith) in
                  omega (arith, one, two, less)
            ]
          ]
        ]

    pub below_more : (bound : ℕ) → e.number < bound → AreBelow bound xs → AreBelow bound new
    below_more bound less below k l =
        let size = size_more in
        let within = fits.within in
        elim (cases_lt k place) [
          | inl low ↦ let one = number_before k low in let b = below k (omega arith) in omega (arith, one, b)
          | inr high ↦ elim (cases_lt place k) [
            | inl beyond ↦
                let is : (k - 1) + 1 ≡ k = omega arith in
                let one : number_at new k ≡ number_at xs (k - 1) = rw is at (number_after (k - 1) (omega arith) (omega arith)) in
                let b = below (k - 1) (omega arith) in
                omega (arith, one, b)
            | inr at ↦
                let is : k ≡ place = omega arith in
                let one : number_at new k ≡ e.number = ap (number_at new) is ∙ number_here in
                omega (arith, one, less)
          ]
        ]

    pub item_inserted : (other : ℕ) → item_for new other ≡ (if other == e.number then Some e.item else item_for xs other)
    item_inserted other = item_more xs place e (not_there xs e.number place fits) other

    -- there is room for one entry more
    pub more_room : (capacity : ℕ) → AreRising xs → HasRoomFor e.number capacity xs → length xs < capacity
    more_room capacity up room =
        let size = size_more in
        let last = place_below new (rising_more up) (length xs) (omega arith) in
        let low = below_more room.bound room.greater room.below (length xs) (omega arith) in
        let fit = room.room in
        omega (arith, last, low, fit)

  -- what was copied one place on, behind an entry
  pub inserted : (xs moved : List (Entry T)) (place : ℕ) (e : Entry T) → place ≤ length xs → length moved ≡ length xs + 1
      → CopiedTo (xs ++ e ∷ []) moved place (place + 1) (length xs - place) → SameBelow (xs ++ e ∷ []) moved (place + 1) → set moved place e ≡ insert xs place e
  inserted xs moved place e within size copied same =
      let more = length-insert xs place e within in
      let put = length-set moved place e in
      ext_get_or e (set moved place e) (insert xs place e) (omega (arith, more, put, size)) (λ k l. elim (cases_eq k place) [
        | inl is ↦ rw is (get_or-set_same moved place e e (omega (arith, size, within)) ∙ sym (get_or-insert_at xs place e e within))
        | inr other ↦ get_or-set_other moved place k e e other ∙ elim (cases_lt k place) [
          | inl low ↦ same k e (omega arith) ∙ get_or_append_left xs (e ∷ []) e k (omega arith) ∙ sym (get_or-insert_below xs place e e k low within)
          | inr high ↦
              let is : (k - 1) + 1 ≡ k = omega arith in
              let from : place + (k - (place + 1)) ≡ k - 1 = omega arith in
              copied k e (omega arith) (omega (arith, l, put, size)) ∙ ap (λ n. get_or (xs ++ e ∷ []) n e) from
              ∙ get_or_append_left xs (e ∷ []) e (k - 1) (omega (arith, l, put, size))
              ∙ sym (rw is at (get_or-insert_above xs place e e (k - 1) (omega arith) within))
        ]
      ])
