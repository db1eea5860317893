-- Steps of the lists that tell which items name a variable.
use Rattle.std.proofs.Common.{◌≡◌, ◌≢◌, ℕ, ◌+◌, ◌-◌, ◌<◌, ◌≤◌, Bool, true, false, cond, ◌||◌, ◌⊎◌, ◌==◌, List, length, take, get_or, set, refl, sym, ap, ◌∙◌, arith, rules, inl, inr}
use Rattle.std.proofs.lemmas.Bool.{cases_eq, cases_lt, ne_eqb, eq-eqb}
use Rattle.std.proofs.lemmas.List.{get_or-set_same, get_or-set_other, get_or-take, get_or_default, get_or_past, length-take}
use Rattle.std.proofs.lemmas.List.Folds.{list_any_none, list_any_more, list_any_at}
use Rattle.std.proofs.lemmas.List.Sums.{sum_by_more_le}
use Rattle.dcsp_defs.specs.declared.nogood.Pair.{Pair}
use Rattle.dcsp_defs.specs.Pairs.{var_at, no_pair, IsRising}
use Rattle.dcsp_defs.proofs.Searched.{rises_between}
use Rattle.abt_defs.specs.Steps.{is_named}
use Rattle.abt_parts.specs.declared.recorded.Recorded.{Recorded}
use Rattle.abt_parts.specs.Stores.{places_naming}
use Rattle.abt_parts.specs.Places.{Places, no_places}
use Rattle.abt_parts.specs.Index.{list_of, HasRoom}
use Rattle.abt_parts.proofs.PlaceLaws.{names, with_place, length-places}

-- a list with room is one of the lists
pub in_range : (lists : List Places) (var : ℕ) → HasRoom lists var → var < length lists
in_range lists var room = elim (cases_lt var (length lists)) [
  | inl below ↦ below
  | inr past ↦
      let none : list_of lists var ≡ no_places = get_or_past lists var no_places past in
      absurd (omega (arith, room, ap (λ (l : Places). l.capacity) none))
]

-- a pair's variable is not named by the pairs before it
not_yet : (pairs : List Pair) (k : ℕ) → IsRising pairs → k < length pairs → is_named (var_at pairs k) (take k pairs) ≡ false
not_yet pairs k up within = list_any_none (λ (y : Pair). var_at pairs k == y.var) (take k pairs) (λ j d below.
    let before : j < k = search rules in
    let at : get_or (take k pairs) j d ≡ get_or pairs j no_pair = get_or-take k pairs j d before ∙ get_or_default pairs j d no_pair (omega arith) in
    let rises = rises_between pairs up j k before within in
    let apart : var_at pairs k ≢ (get_or (take k pairs) j d).var = λ same. omega (arith, rises, same, ap (λ (y : Pair). y.var) at) in
    ne_eqb (var_at pairs k) (get_or (take k pairs) j d).var apart)

-- one pair more
named_more : (pairs : List Pair) (k var : ℕ) → k < length pairs → is_named var (take (k + 1) pairs) ≡ (is_named var (take k pairs) || (var == var_at pairs k))
named_more pairs k var within = list_any_more (λ (y : Pair). var == y.var) pairs k no_pair within

-- where the lists have the place for the first k pairs, the list of the next pair's variable is as it was, so there is room
pub room_at : (lists old : List Places) (pairs : List Pair) (k place : ℕ) → IsRising pairs → k < length pairs → HasRoom old (var_at pairs k)
    → ((var : ℕ) → (list_of lists var).items ≡ with_place (is_named var (take k pairs)) place (list_of old var).items)
    → ((var : ℕ) → (list_of lists var).capacity ≡ (list_of old var).capacity)
    → HasRoom lists (var_at pairs k)
room_at lists old pairs k place up within room items capacity =
    let here = items (var_at pairs k) ∙ ap (λ b. with_place b place (list_of old (var_at pairs k)).items) (not_yet pairs k up within) in
    omega (arith, ap length here, capacity (var_at pairs k))

-- one list was changed
same_list : (lists : List Places) (at var : ℕ) (x : Places) → at < length lists → var ≡ at → list_of (set lists at x) var ≡ x
same_list lists at var x there e = ap (list_of (set lists at x)) e ∙ get_or-set_same lists at x no_places there

other_list : (lists : List Places) (at var : ℕ) (x : Places) → var ≢ at → list_of (set lists at x) var ≡ list_of lists var
other_list lists at var x ne = get_or-set_other lists at var x no_places ne

-- where the lists of the variables of the first k pairs were changed, and then that of the next one, those of the first k + 1 are
pub items_at : (f : List ℕ → List ℕ) (lists old : List Places) (pairs : List Pair) (k : ℕ) (x : Places) → IsRising pairs → k < length pairs → var_at pairs k < length lists
    → x.items ≡ f (list_of lists (var_at pairs k)).items
    → ((var : ℕ) → (list_of lists var).items ≡ cond (is_named var (take k pairs)) (f (list_of old var).items) (list_of old var).items)
    → (var : ℕ) → (list_of (set lists (var_at pairs k) x) var).items ≡ cond (is_named var (take (k + 1) pairs)) (f (list_of old var).items) (list_of old var).items
items_at f lists old pairs k x up within there changes items var = by_case (cases_eq var (var_at pairs k)) where
  at : ℕ
  at = var_at pairs k

  now : is_named var (take (k + 1) pairs) ≡ (is_named var (take k pairs) || (var == at))
  now = named_more pairs k var within

  or_false : (b : Bool) → (b || false) ≡ b
  or_false true = refl
  or_false false = refl

  by_case : (var ≡ at) ⊎ (var ≢ at) → (list_of (set lists at x) var).items ≡ cond (is_named var (take (k + 1) pairs)) (f (list_of old var).items) (list_of old var).items
  by_case (inl e) =
      let before : is_named var (take k pairs) ≡ false = ap (λ v. is_named v (take k pairs)) e ∙ not_yet pairs k up within in
      let after : is_named var (take (k + 1) pairs) ≡ true = now ∙ ap (λ b. b || (var == at)) before ∙ eq-eqb var at e in
      let was : (list_of lists at).items ≡ (list_of old var).items = ap (λ v. (list_of lists v).items) (sym e) ∙ items var ∙ ap (λ b. cond b (f (list_of old var).items) (list_of old var).items) before in
      ap (λ (l : Places). l.items) (same_list lists at var x there e) ∙ changes ∙ ap f was ∙ ap (λ b. cond b (f (list_of old var).items) (list_of old var).items) (sym after)
  by_case (inr ne) =
      let after : is_named var (take (k + 1) pairs) ≡ is_named var (take k pairs) = now ∙ ap (λ b. is_named var (take k pairs) || b) (ne_eqb var at ne) ∙ or_false (is_named var (take k pairs)) in
      ap (λ (l : Places). l.items) (other_list lists at var x ne) ∙ items var ∙ ap (λ b. cond b (f (list_of old var).items) (list_of old var).items) (sym after)

-- the same, where no list was given more room
pub changed_at : (f : List ℕ → List ℕ) (lists old : List Places) (pairs : List Pair) (k : ℕ) (x : Places) → IsRising pairs → k < length pairs → var_at pairs k < length lists
    → x.items ≡ f (list_of lists (var_at pairs k)).items
    → x.capacity ≡ (list_of lists (var_at pairs k)).capacity
    → ((var : ℕ) → (list_of lists var).items ≡ cond (is_named var (take k pairs)) (f (list_of old var).items) (list_of old var).items)
    → ((var : ℕ) → (list_of lists var).capacity ≡ (list_of old var).capacity)
    → ((var : ℕ) → (list_of (set lists (var_at pairs k) x) var).items ≡ cond (is_named var (take (k + 1) pairs)) (f (list_of old var).items) (list_of old var).items)
    × ((var : ℕ) → (list_of (set lists (var_at pairs k) x) var).capacity ≡ (list_of old var).capacity)
changed_at f lists old pairs k x up within there changes keeps items capacity = (items_at f lists old pairs k x up within there changes items, λ var. sizes var (cases_eq var (var_at pairs k))) where
  at : ℕ
  at = var_at pairs k

  sizes : (var : ℕ) → (var ≡ at) ⊎ (var ≢ at) → (list_of (set lists at x) var).capacity ≡ (list_of old var).capacity
  sizes var (inl e) = ap (λ (l : Places). l.capacity) (same_list lists at var x there e) ∙ keeps ∙ ap (λ v. (list_of lists v).capacity) (sym e) ∙ capacity var
  sizes var (inr ne) = ap (λ (l : Places). l.capacity) (other_list lists at var x ne) ∙ capacity var

-- a list that is as it was
pub items_stay : (lists : List Places) (at : ℕ) (x : Places) → at < length lists → x.items ≡ (list_of lists at).items → (var : ℕ) → (list_of (set lists at x) var).items ≡ (list_of lists var).items
items_stay lists at x there stays var = elim (cases_eq var at) [
  | inl e ↦ ap (λ (l : Places). l.items) (same_list lists at var x there e) ∙ stays ∙ ap (λ v. (list_of lists v).items) (sym e)
  | inr ne ↦ ap (λ (l : Places). l.items) (other_list lists at var x ne)
]

-- a pair among the first ones
pub var_early : (pairs : List Pair) (k j : ℕ) → j < length (take k pairs) → (j < length pairs) × (var_at (take k pairs) j ≡ var_at pairs j)
var_early pairs k j within =
    let size = length-take k pairs in
    (omega (arith, within, size), ap (λ (y : Pair). y.var) (get_or-take k pairs j no_pair (omega (arith, within, size))))

-- the first pairs rise too
pub early_rise : (pairs : List Pair) (k : ℕ) → IsRising pairs → IsRising (take k pairs)
early_rise pairs k up j within =
    let one = var_early pairs k j (omega (arith, within)) in
    let two = var_early pairs k (j + 1) within in
    let rise = up j two.0 in
    omega (arith, rise, one.1, two.1)

-- the last pair's variable is the greatest
pub last_greatest : (pairs : List Pair) (last : Pair) → IsRising pairs → last ≡ get_or pairs (length pairs - 1) last → (j : ℕ) → j < length pairs → var_at pairs j ≤ last.var
last_greatest pairs last up is j within =
    let at : last ≡ get_or pairs (length pairs - 1) no_pair = is ∙ get_or_default pairs (length pairs - 1) last no_pair (omega (arith, within)) in
    let same = ap (λ (y : Pair). y.var) at in
    elim (cases_eq j (length pairs - 1)) [
      | inl e ↦ let here = ap (var_at pairs) e in omega (arith, here, same)
      | inr ne ↦ let rise = rises_between pairs up j (length pairs - 1) (omega (arith, ne, within)) (omega (arith, within)) in omega (arith, rise, same)
    ]

-- a list that was not empty is one of the lists
pub in_use : (lists : List Places) (var : ℕ) → 0 < length (list_of lists var).items → var < length lists
in_use lists var some = elim (cases_lt var (length lists)) [
  | inl below ↦ below
  | inr past ↦
      let none : list_of lists var ≡ no_places = get_or_past lists var no_places past in
      absurd (omega (arith, some, ap (λ (l : Places). length l.items) none))
]

-- the lists that were changed had room for what stood in them
pub had_more : (f : List ℕ → List ℕ) (lists old : List Places) (pairs : List Pair) (k : ℕ) → IsRising pairs → k < length pairs
    → length (list_of lists (var_at pairs k)).items ≤ (list_of lists (var_at pairs k)).capacity
    → ((var : ℕ) → (list_of lists var).items ≡ cond (is_named var (take k pairs)) (f (list_of old var).items) (list_of old var).items)
    → ((var : ℕ) → (list_of lists var).capacity ≡ (list_of old var).capacity)
    → ((var : ℕ) → is_named var (take k pairs) ≡ true → length (list_of old var).items ≤ (list_of old var).capacity)
    → (var : ℕ) → is_named var (take (k + 1) pairs) ≡ true → length (list_of old var).items ≤ (list_of old var).capacity
had_more f lists old pairs k up within has items capacity had var named = by_case (cases_eq var (var_at pairs k)) where
  or_false : (b : Bool) → (b || false) ≡ b
  or_false true = refl
  or_false false = refl

  by_case : (var ≡ var_at pairs k) ⊎ (var ≢ var_at pairs k) → length (list_of old var).items ≤ (list_of old var).capacity
  by_case (inl e) =
      let before : is_named var (take k pairs) ≡ false = ap (λ v. is_named v (take k pairs)) e ∙ not_yet pairs k up within in
      let was : (list_of lists var).items ≡ (list_of old var).items = items var ∙ ap (λ b. cond b (f (list_of old var).items) (list_of old var).items) before in
      let here = ap (λ v. length (list_of lists v).items) e in
      let room = ap (λ v. (list_of lists v).capacity) e in
      omega (arith, has, here, room, ap length was, capacity var)
  by_case (inr ne) = had var (sym (named_more pairs k var within ∙ ap (λ b. is_named var (take k pairs) || b) (ne_eqb var (var_at pairs k) ne) ∙ or_false (is_named var (take k pairs))) ∙ named)

-- each pair's variable is named by the pairs
pub named_at : (pairs : List Pair) (j : ℕ) → j < length pairs → is_named (var_at pairs j) pairs ≡ true
named_at pairs j within = list_any_at (λ (y : Pair). var_at pairs j == y.var) pairs j no_pair within (eq-eqb (var_at pairs j) (var_at pairs j) refl)

-- the places of the first items, of which the next one names the variable, are fewer than all
pub fewer_places : (items : List Recorded) (k var : ℕ) (x : Recorded) → k < length items → x ≡ get_or items k x → names var x ≡ true → length (places_naming (take k items) var) < length (places_naming items var)
fewer_places items k var x within is named =
    let more = sum_by_more_le (λ y. cond (names var y) 1 0) items k x within in
    let one : ◌≡◌ {A = ℕ} (cond (names var (get_or items k x)) 1 0) 1 = ap (λ (y : Recorded). cond (names var y) 1 0) (sym is) ∙ ap (λ b. cond b 1 0) named in
    omega (arith, length-places (take k items) var, length-places items var, more, one)

-- a list from which the last place was taken, or none, had room for all
pub room_before : (b : Bool) (k capacity : ℕ) (here before all : List ℕ) → here ≡ with_place b k before → (length here < length all → length all ≤ capacity) → (b ≡ true → length here ≤ capacity)
    → length before < length all → length all ≤ capacity
room_before true k capacity here before all is room had less = elim (cases_lt (length here) (length all)) [
  | inl fewer ↦ room fewer
  | inr full ↦ let most = had refl in omega (arith, full, most)
]
room_before false k capacity here before all is room had less = room (omega (arith, less, ap length is))
