-- The places of the items that name a variable.
use Rattle.std.proofs.Common.{◌≡◌, ℕ, zero, suc, ◌+◌, ◌-◌, ◌<◌, ◌≤◌, Bool, true, false, cond, ◌&&◌, List, [], ◌∷◌, ◌++◌, map, filter, length, get_or, take, drop, ◌⊎◌, inl, inr, refl, sym, ap, ◌∙◌, arith, subst}
use Rattle.std.specs.List.{enumerate_from, count_by, list_all}
use Rattle.abt_defs.specs.Steps.{is_named}
use Rattle.abt_parts.specs.declared.recorded.Recorded.{Recorded}
use Rattle.std.proofs.lemmas.Bool.{cases_lt}
use Rattle.std.proofs.lemmas.List.{get_or-take, get_or_append_left, length-append, length-take, length-take-le, take-append-drop, take_at, take_more}
use Rattle.abt_parts.specs.Stores.{places_from, places_naming}
use Rattle.abt_parts.specs.Places.{without_last}
use Rattle.abt_parts.proofs.Counts.{count_by-cons}

-- the item's nogood names the variable
abbrev pub names : ℕ → Recorded → Bool
names var item = is_named var item.nogood

-- one item more
abbrev pub with_place : Bool → ℕ → List ℕ → List ℕ
with_place b k places = cond b (places ++ k ∷ []) places

places_first : (first : ℕ) (x : Recorded) (xs : List Recorded) (var : ℕ) → places_from first (x ∷ xs) var ≡ cond (names var x) (first ∷ places_from (first + 1) xs var) (places_from (first + 1) xs var)
places_first first x xs var = by_test (names var x) where
  by_test : (b : Bool) → map (λ (y : ℕ × Recorded). y.0) (cond b ((first, x) ∷ filter (λ (y : ℕ × Recorded). names var y.1) (enumerate_from (first + 1) xs)) (filter (λ (y : ℕ × Recorded). names var y.1) (enumerate_from (first + 1) xs)))
      ≡ cond b (first ∷ places_from (first + 1) xs var) (places_from (first + 1) xs var)
  by_test true = refl
  by_test false = refl

push_from : (first : ℕ) (xs : List Recorded) (y : Recorded) (var k : ℕ) → k ≡ first + length xs → places_from first (xs ++ y ∷ []) var ≡ with_place (names var y) k (places_from first xs var)
push_from first [] y var k e = places_first first y [] var ∙ by_test (names var y) where
  by_test : (b : Bool) → cond b (first ∷ []) [] ≡ with_place b k []
  by_test true = let same : first ≡ k = omega arith in ap (λ z. z ∷ []) same
  by_test false = refl
push_from first (x ∷ xs) y var k e =
    places_first first x (xs ++ y ∷ []) var
    ∙ ap (λ z. cond (names var x) (first ∷ z) z) (push_from (first + 1) xs y var k (omega arith))
    ∙ by_tests (names var x) (names var y)
    ∙ ap (with_place (names var y) k) (sym (places_first first x xs var))
  where
    by_tests : (a b : Bool) → cond a (first ∷ with_place b k (places_from (first + 1) xs var)) (with_place b k (places_from (first + 1) xs var)) ≡ with_place b k (cond a (first ∷ places_from (first + 1) xs var) (places_from (first + 1) xs var))
    by_tests true true = refl
    by_tests true false = refl
    by_tests false b = refl

pub places_push : (xs : List Recorded) (y : Recorded) (var k : ℕ) → k ≡ length xs → places_naming (xs ++ y ∷ []) var ≡ with_place (names var y) k (places_naming xs var)
places_push xs y var k e = push_from 0 xs y var k (omega arith)

-- as many places as items that name the variable
length_from : (first : ℕ) (xs : List Recorded) (var : ℕ) → length (places_from first xs var) ≡ count_by (names var) xs
length_from first [] var = refl
length_from first (x ∷ xs) var = ap length (places_first first x xs var) ∙ by_test (names var x) (length_from (first + 1) xs var) ∙ sym (count_by-cons (names var) x xs) where
  by_test : (b : Bool) → length (places_from (first + 1) xs var) ≡ count_by (names var) xs → length (cond b (first ∷ places_from (first + 1) xs var) (places_from (first + 1) xs var)) ≡ cond b 1 0 + count_by (names var) xs
  by_test true later = omega arith
  by_test false later = omega arith

pub length-places : (xs : List Recorded) (var : ℕ) → length (places_naming xs var) ≡ count_by (names var) xs
length-places xs var = length_from 0 xs var

-- what stands at a place: an item that names the variable
pub record IsPlaceOf (first : ℕ) (xs : List Recorded) (var place : ℕ) (d : Recorded) : Type 0 where
  pub from : first ≤ place
  pub within : place < first + length xs
  pub named : names var (get_or xs (place - first) d) ≡ true

later_place : (first : ℕ) (x : Recorded) (xs : List Recorded) (var place : ℕ) (d : Recorded) → IsPlaceOf (first + 1) xs var place d → IsPlaceOf first (x ∷ xs) var place d
later_place first x xs var place d at =
    let from = at.from in
    let within = at.within in
    let next : place - first ≡ suc (place - (first + 1)) = omega arith in
    record { from = omega arith; within = omega arith; named = ap (λ z. names var (get_or (x ∷ xs) z d)) next ∙ at.named }

place_from : (first : ℕ) (xs : List Recorded) (var j : ℕ) (d : Recorded) → j < length (places_from first xs var) → IsPlaceOf first xs var (get_or (places_from first xs var) j 0) d
place_from first [] var j d within = absurd (omega arith)
place_from first (x ∷ xs) var j d within =
    let is = places_first first x xs var in
    subst (λ (z : List ℕ). IsPlaceOf first (x ∷ xs) var (get_or z j 0) d) (sym is) (by_test (names var x) refl j (omega (arith, ap length is)) (λ i l. place_from (first + 1) xs var i d l))
  where
    by_test : (b : Bool) → names var x ≡ b → (i : ℕ) → i < length (cond b (first ∷ places_from (first + 1) xs var) (places_from (first + 1) xs var))
        → ((n : ℕ) → n < length (places_from (first + 1) xs var) → IsPlaceOf (first + 1) xs var (get_or (places_from (first + 1) xs var) n 0) d)
        → IsPlaceOf first (x ∷ xs) var (get_or (cond b (first ∷ places_from (first + 1) xs var) (places_from (first + 1) xs var)) i 0) d
    by_test true t zero l later =
        let none : first - first ≡ 0 = omega arith in
        record { from = omega arith; within = omega arith; named = ap (λ z. names var (get_or (x ∷ xs) z d)) none ∙ t }
    by_test true t (suc i) l later = later_place first x xs var _ d (later i (omega arith))
    by_test false t i l later = later_place first x xs var _ d (later i l)

no_item : Recorded
no_item = record { nogood = []; step = 0 }

pub place_within : (xs : List Recorded) (var j : ℕ) → j < length (places_naming xs var) → get_or (places_naming xs var) j 0 < length xs
place_within xs var j within = omega (arith, (place_from 0 xs var j no_item within).within)

pub place_named : (xs : List Recorded) (var j : ℕ) (d : Recorded) → j < length (places_naming xs var) → names var (get_or xs (get_or (places_naming xs var) j 0) d) ≡ true
place_named xs var j d within =
    let place = get_or (places_naming xs var) j 0 in
    let none : place ≡ place - 0 = omega arith in
    ap (λ z. names var (get_or xs z d)) none ∙ (place_from 0 xs var j d within).named

-- an item that is at none of the places names nothing, so what holds of an item that names nothing and of those at the places holds of all
all_from : (p : Recorded → Bool) (first : ℕ) (xs : List Recorded) (var : ℕ) → ((x : Recorded) → names var x ≡ false → p x ≡ true)
    → ((j : ℕ) → j < length (places_from first xs var) → (d : Recorded) → p (get_or xs (get_or (places_from first xs var) j 0 - first) d) ≡ true) → list_all p xs ≡ true
all_from p first [] var other here = refl
all_from p first (x ∷ xs) var other here = both (p x) (list_all p xs) (by_test (names var x) refl) (all_from p (first + 1) xs var other later) where
  both : (a b : Bool) → a ≡ true → b ≡ true → (a && b) ≡ true
  both a b e f = ap (λ z. z && b) e ∙ f

  by_test : (b : Bool) → names var x ≡ b → p x ≡ true
  by_test true t =
      let is : places_from first (x ∷ xs) var ≡ first ∷ places_from (first + 1) xs var = places_first first x xs var ∙ ap (λ z. cond z (first ∷ places_from (first + 1) xs var) (places_from (first + 1) xs var)) t in
      let some : 0 < length (places_from first (x ∷ xs) var) = omega (arith, ap length is) in
      let place : get_or (places_from first (x ∷ xs) var) 0 0 - first ≡ 0 = omega (arith, ap (λ (z : List ℕ). get_or z 0 0) is) in
      sym (ap (λ z. p (get_or (x ∷ xs) z x)) place) ∙ here 0 some x
  by_test false t = other x t

  later : (j : ℕ) → j < length (places_from (first + 1) xs var) → (d : Recorded) → p (get_or xs (get_or (places_from (first + 1) xs var) j 0 - (first + 1)) d) ≡ true
  later j within d = move (names var x) refl where
    from : first + 1 ≤ get_or (places_from (first + 1) xs var) j 0
    from = (place_from (first + 1) xs var j d within).from

    move : (b : Bool) → names var x ≡ b → p (get_or xs (get_or (places_from (first + 1) xs var) j 0 - (first + 1)) d) ≡ true
    move true t =
        let is : places_from first (x ∷ xs) var ≡ first ∷ places_from (first + 1) xs var = places_first first x xs var ∙ ap (λ z. cond z (first ∷ places_from (first + 1) xs var) (places_from (first + 1) xs var)) t in
        let place : get_or (places_from first (x ∷ xs) var) (suc j) 0 - first ≡ suc (get_or (places_from (first + 1) xs var) j 0 - (first + 1)) = omega (arith, from, ap (λ (z : List ℕ). get_or z (suc j) 0) is) in
        sym (ap (λ z. p (get_or (x ∷ xs) z d)) place) ∙ here (suc j) (omega (arith, ap length is)) d
    move false t =
        let is : places_from first (x ∷ xs) var ≡ places_from (first + 1) xs var = places_first first x xs var ∙ ap (λ z. cond z (first ∷ places_from (first + 1) xs var) (places_from (first + 1) xs var)) t in
        let place : get_or (places_from first (x ∷ xs) var) j 0 - first ≡ suc (get_or (places_from (first + 1) xs var) j 0 - (first + 1)) = omega (arith, from, ap (λ (z : List ℕ). get_or z j 0) is) in
        sym (ap (λ z. p (get_or (x ∷ xs) z d)) place) ∙ here j (omega (arith, ap length is)) d

pub all_at_places : (p : Recorded → Bool) (xs : List Recorded) (var : ℕ) → ((x : Recorded) → names var x ≡ false → p x ≡ true)
    → ((j : ℕ) → j < length (places_naming xs var) → (d : Recorded) → p (get_or xs (get_or (places_naming xs var) j 0) d) ≡ true) → list_all p xs ≡ true
all_at_places p xs var other here = all_from p 0 xs var other (λ j within d.
    let none : get_or (places_naming xs var) j 0 - 0 ≡ get_or (places_naming xs var) j 0 = omega arith in
    ap (λ z. p (get_or xs z d)) none ∙ here j within d)

-- each item that names the variable stands at one of the places
there_from : (first : ℕ) (xs : List Recorded) (var a : ℕ) (d : Recorded) → a < length xs → names var (get_or xs a d) ≡ true → (j : ℕ) × (j < length (places_from first xs var)) × (get_or (places_from first xs var) j 0 ≡ first + a)
there_from first [] var a d within named = absurd (omega arith)
there_from first (x ∷ xs) var a d within named =
    subst (λ (z : List ℕ). (j : ℕ) × (j < length z) × (get_or z j 0 ≡ first + a)) (sym (places_first first x xs var)) (by_place a within named (names var x) refl (λ b l n. there_from (first + 1) xs var b d l n))
  where
    by_place : (b : ℕ) → b < length (x ∷ xs) → names var (get_or (x ∷ xs) b d) ≡ true → (t : Bool) → names var x ≡ t
        → ((c : ℕ) → c < length xs → names var (get_or xs c d) ≡ true → (j : ℕ) × (j < length (places_from (first + 1) xs var)) × (get_or (places_from (first + 1) xs var) j 0 ≡ first + 1 + c))
        → (j : ℕ) × (j < length (cond t (first ∷ places_from (first + 1) xs var) (places_from (first + 1) xs var))) × (get_or (cond t (first ∷ places_from (first + 1) xs var) (places_from (first + 1) xs var)) j 0 ≡ first + b)
    by_place zero l n true e later = (0, omega arith, omega arith)
    by_place zero l n false e later = absurd (let clash : true ≡ false = sym n ∙ e in cc)
    by_place (suc b) l n true e later = let found = later b (omega arith) n in let at = found.2 in let inside = found.1 in (suc found.0, omega arith, omega arith)
    by_place (suc b) l n false e later = let found = later b (omega arith) n in let at = found.2 in (found.0, found.1, omega arith)

pub place_there : (xs : List Recorded) (var a : ℕ) (d : Recorded) → a < length xs → names var (get_or xs a d) ≡ true → (j : ℕ) × (j < length (places_naming xs var)) × (get_or (places_naming xs var) j 0 ≡ a)
place_there xs var a d within named = let found = there_from 0 xs var a d within named in let at = found.2 in (found.0, found.1, omega arith)

append_from : (first : ℕ) (xs ys : List Recorded) (var : ℕ) → places_from first (xs ++ ys) var ≡ places_from first xs var ++ places_from (first + length xs) ys var
append_from first [] ys var = let here : first ≡ first + 0 = omega arith in ap (λ n. places_from n ys var) here
append_from first (x ∷ xs) ys var =
    let past : first + 1 + length xs ≡ first + length (x ∷ xs) = omega arith in
    places_first first x (xs ++ ys) var ∙ ap (λ z. cond (names var x) (first ∷ z) z) (append_from (first + 1) xs ys var) ∙ by_test (names var x)
    ∙ ap (λ z. z ++ places_from (first + 1 + length xs) ys var) (sym (places_first first x xs var)) ∙ ap (λ n. places_from first (x ∷ xs) var ++ places_from n ys var) past
  where
    by_test : (b : Bool) → cond b (first ∷ (places_from (first + 1) xs var ++ places_from (first + 1 + length xs) ys var)) (places_from (first + 1) xs var ++ places_from (first + 1 + length xs) ys var)
        ≡ cond b (first ∷ places_from (first + 1) xs var) (places_from (first + 1) xs var) ++ places_from (first + 1 + length xs) ys var
    by_test true = refl
    by_test false = refl

-- what holds of items that name nothing and of those at the places before one holds of all before the item there
pub all_before : (p : Recorded → Bool) (xs : List Recorded) (var i a : ℕ) → ((x : Recorded) → names var x ≡ false → p x ≡ true) → get_or (places_naming xs var) i 0 ≡ a
    → ((j : ℕ) → j < i → (d : Recorded) → p (get_or xs (get_or (places_naming xs var) j 0) d) ≡ true) → list_all p (take a xs) ≡ true
all_before p xs var i a other is here = all_at_places p (take a xs) var other (λ j l d. at j l d (cases_lt j i)) where
  size : length (take a xs) ≤ a
  size = omega (arith, length-take a xs)

  prefix : (j : ℕ) → j < length (places_naming (take a xs) var) → get_or (places_naming xs var) j 0 ≡ get_or (places_naming (take a xs) var) j 0
  prefix j l =
      ap (λ z. get_or (places_naming z var) j 0) (sym (take-append-drop a xs)) ∙ ap (λ (z : List ℕ). get_or z j 0) (append_from 0 (take a xs) (drop a xs) var)
      ∙ get_or_append_left (places_naming (take a xs) var) (places_from (0 + length (take a xs)) (drop a xs) var) 0 j l

  at : (j : ℕ) → j < length (places_naming (take a xs) var) → (d : Recorded) → (j < i) ⊎ (i ≤ j) → p (get_or (take a xs) (get_or (places_naming (take a xs) var) j 0) d) ≡ true
  at j l d (inl before) =
      let inside = place_within (take a xs) var j l in
      let early : get_or (places_naming (take a xs) var) j 0 < a = omega (arith, inside, size) in
      ap p (get_or-take a xs (get_or (places_naming (take a xs) var) j 0) d early) ∙ ap (λ n. p (get_or xs n d)) (sym (prefix j l)) ∙ here j before d
  at j l d (inr after) =
      let within : i < length (places_naming (take a xs) var) = omega (arith, l, after) in
      absurd (omega (arith, place_within (take a xs) var i within, size, prefix i within, is))

-- without the last place, where one was added
pub unpushed : (b : Bool) (k : ℕ) (places : List ℕ) → cond b (without_last (with_place b k places)) (with_place b k places) ≡ places
unpushed true k places = let size : length places ≡ length (places ++ k ∷ []) - 1 = omega (arith, length-append places (k ∷ [])) in take_at places (k ∷ []) _ size
unpushed false k places = refl

pub grows : (b : Bool) (k : ℕ) (places : List ℕ) → length places ≤ length (with_place b k places)
grows true k places = omega (arith, length-append places (k ∷ []))
grows false k places = omega arith

-- the places of the first items with the next one
pub pushed_at : (items : List Recorded) (k var : ℕ) (x : Recorded) (n : ℕ) → n ≡ k + 1 → k < length items → x ≡ get_or items k x → places_naming (take n items) var ≡ with_place (names var x) k (places_naming (take k items) var)
pushed_at items k var x n e within is =
    let more : take (k + 1) items ≡ take k items ++ x ∷ [] = take_more items k x within ∙ ap (λ (y : Recorded). take k items ++ y ∷ []) (sym is) in
    let size : k ≡ length (take k items) = sym (length-take-le k items (omega arith)) in
    ap (λ m. places_naming (take m items) var) e ∙ ap (λ z. places_naming z var) more ∙ places_push (take k items) x var k size
