-- Ranks of values: what is better has a lesser rank, and of rising values each has the rank of its place.
use Rattle.std.proofs.Common.{◌≡◌, ◌⊎◌, ◌∙◌, ℕ, zero, suc, ◌+◌, ◌-◌, ◌<◌, ◌≤◌, Bool, true, false, cond, List, [], ◌∷◌, length, filter, take, slice_get, Option, Some, None, refl, sym, ap, subst, inl, inr, arith}
use Rattle.std.specs.Prelude.{ℤ, ◌<ℤ◌, int_lt, slice_index_or}
use Rattle.std.proofs.lemmas.Int.{ints}
use Rattle.std.proofs.lemmas.Option.{slice_get_within, get_or_from_slice_get}
use Rattle.std.proofs.lemmas.List.Filters.{length-filter_more}
use Rattle.dcsp_domain.specs.Sets.{IsRising}
use Rattle.dcsp_domain.proofs.Domains.{length_filter}
use Rattle.dcsp_defs.specs.Words.{In}
use Rattle.dcsp_rule.specs.declared.rule.Term.{Term}
use Rattle.dcsp_rule.specs.declared.aim.Aim.{Aim}
use Rattle.dcsp_rule.specs.declared.aim.Aim.TheVariants.{Satisfy, Least, Greatest}
use Rattle.dcsp_rule.specs.Aims.{aimed_at, is_better}
use Rattle.abt_optimum.specs.Halves.{rank, value_ranked, excluded, candidates, left_out, value_beyond, next_value}
use Rattle.abt_optimum.specs.Rounds.{IsAllowed}

-- ---- filtered lists

-- fewer values pass than there are, where one does not
pub filter_shorter : (p : ℤ → Bool) (y : ℤ) (ys : List ℤ) → In y ys → p y ≡ false → length (filter p ys) < length ys
filter_shorter p y [] i fails = absurd i
filter_shorter p y (x ∷ xs) (inl same) fails =
    let out : p x ≡ false = ap p (sym same) ∙ fails in
    let few = length_filter p xs in
    rw out (omega arith)
filter_shorter p y (x ∷ xs) (inr i) fails = kept (p x) (filter_shorter p y xs i fails) where
  kept : (b : Bool) → length (filter p xs) < length xs → length (cond b (x ∷ filter p xs) (filter p xs)) < suc (length xs)
  kept true less = omega arith
  kept false less = omega arith

-- what passes the stronger test is filtered alike by both
pub filter_both : (p q : ℤ → Bool) (xs : List ℤ) → ((x : ℤ) → p x ≡ true → q x ≡ true) → filter p (filter q xs) ≡ filter p xs
filter_both p q [] weaker = refl
filter_both p q (x ∷ xs) weaker = by (p x) (q x) refl refl (filter_both p q xs weaker) where
  by : (a b : Bool) → p x ≡ a → q x ≡ b → filter p (filter q xs) ≡ filter p xs → filter p (cond b (x ∷ filter q xs) (filter q xs)) ≡ cond a (x ∷ filter p xs) (filter p xs)
  by true true e f rest = rw e (ap (λ l. x ∷ l) rest)
  by true false e f rest = let clash : true ≡ false = sym (weaker x e) ∙ f in cc
  by false true e f rest = rw e rest
  by false false e f rest = rest

-- no fewer pass the weaker test
filter_weaker : (p q : ℤ → Bool) (xs : List ℤ) → ((x : ℤ) → p x ≡ true → q x ≡ true) → length (filter p xs) ≤ length (filter q xs)
filter_weaker p q xs weaker =
    let same = ap length (filter_both p q xs weaker) in
    let few = length_filter p (filter q xs) in
    omega (arith, same, few)

-- all pass, or none does
all_pass : (p : ℤ → Bool) (xs : List ℤ) → ((j : ℕ) (d : ℤ) → j < length xs → p (slice_index_or xs j d) ≡ true) → length (filter p xs) ≡ length xs
all_pass p [] h = refl
all_pass p (x ∷ xs) h =
    let rest = all_pass p xs (λ j d l. h (suc j) d (omega arith)) in
    rw (h 0 x (omega arith)) (omega arith)

none_passes : (p : ℤ → Bool) (xs : List ℤ) → ((j : ℕ) (d : ℤ) → j < length xs → p (slice_index_or xs j d) ≡ false) → length (filter p xs) ≡ 0
none_passes p [] h = refl
none_passes p (x ∷ xs) h =
    let rest = none_passes p xs (λ j d l. h (suc j) d (omega arith)) in
    rw (h 0 x (omega arith)) rest

-- ---- better values

lt_itself : (a : ℤ) → int_lt a a ≡ false
lt_itself a = grind (arith, ints)

lt_through : (a b c : ℤ) → int_lt a b ≡ true → int_lt b c ≡ true → int_lt a c ≡ true
lt_through a b c h k = grind (arith, ints)

lt_past : (a b c : ℤ) → int_lt b a ≡ false → int_lt b c ≡ true → int_lt a c ≡ true
lt_past a b c h k = grind (arith, ints)

lt_before : (a b c : ℤ) → int_lt b a ≡ false → int_lt c a ≡ true → int_lt c b ≡ true
lt_before a b c h k = grind (arith, ints)

lt_is : (a b : ℤ) → a <ℤ b → int_lt a b ≡ true
lt_is a b h = grind (arith, ints)

lt_not : (a b : ℤ) → a <ℤ b → int_lt b a ≡ false
lt_not a b h = grind (arith, ints)

lt_neither : (a b : ℤ) → int_lt a b ≡ false → int_lt b a ≡ false → a ≡ b
lt_neither a b h k = grind (arith, ints)

-- no value is better than itself, and what is better than a better value is better
pub better_itself : (aim : Aim) (value : ℤ) → is_better aim value value ≡ false
better_itself Satisfy value = refl
better_itself (Least term) value = lt_itself value
better_itself (Greatest term) value = lt_itself value

pub better_through : (aim : Aim) (bound value x : ℤ) → is_better aim bound value ≡ true → is_better aim value x ≡ true → is_better aim bound x ≡ true
better_through Satisfy bound value x h k = h
better_through (Least term) bound value x h k = lt_through x value bound k h
better_through (Greatest term) bound value x h k = lt_through bound value x h k

-- what is better than a value is better than one that is no better
better_past : (aim : Aim) (bound value x : ℤ) → is_better aim bound value ≡ false → is_better aim bound x ≡ true → is_better aim value x ≡ true
better_past Satisfy bound value x h k = k
better_past (Least term) bound value x h k = lt_before bound value x h k
better_past (Greatest term) bound value x h k = lt_past value bound x h k

-- ---- ranks

pub rank_less : (aim : Aim) (values : List ℤ) (value x : ℤ) → is_better aim value x ≡ true → In x values → rank aim values x < rank aim values value
rank_less aim values value x better there =
    let within = in_filter values there in
    let less = filter_shorter (is_better aim x) x (filter (is_better aim value) values) within (better_itself aim x) in
    let both = filter_both (is_better aim x) (is_better aim value) values (λ y. better_through aim value x y better) in
    subst (λ (l : List ℤ). length l < rank aim values value) both less
  where
    in_filter : (ys : List ℤ) → In x ys → In x (filter (is_better aim value) ys)
    in_filter [] i = absurd i
    in_filter (y ∷ ys) (inl same) = let pass : is_better aim value y ≡ true = ap (is_better aim value) (sym same) ∙ better in rw pass (inl same)
    in_filter (y ∷ ys) (inr i) = kept (is_better aim value y) (in_filter ys i) where
      kept : (b : Bool) → In x (filter (is_better aim value) ys) → In x (cond b (y ∷ filter (is_better aim value) ys) (filter (is_better aim value) ys))
      kept true j = inr j
      kept false j = j

pub rank_no_less : (aim : Aim) (values : List ℤ) (value x : ℤ) → is_better aim value x ≡ false → rank aim values value ≤ rank aim values x
rank_no_less aim values value x not_so = filter_weaker (is_better aim value) (is_better aim x) values (λ y. better_past aim value x y not_so)

-- a rank counts value after value
pub rank_more : (aim : Aim) (values : List ℤ) (value x : ℤ) (place : ℕ) → slice_get values place ≡ Some x → rank aim (take (place + 1) values) value ≡ rank aim (take place values) value + cond (is_better aim value x) 1 0
rank_more aim values value x place there =
    let within = slice_get_within values place x there in
    let here = get_or_from_slice_get values place x x there in
    length-filter_more (is_better aim value) values place x within ∙ ap (λ (y : ℤ). rank aim (take place values) value + cond (is_better aim value y) 1 0) here

-- one value more was counted, or passed over
pub counted_more : (aim : Aim) (values : List ℤ) (value x : ℤ) (place count now : ℕ) (passes : Bool) → slice_get values place ≡ Some x → count ≡ rank aim (take place values) value → count ≤ place
    → passes ≡ is_better aim value x → now ≡ count + cond passes 1 0 → (now ≡ rank aim (take (place + 1) values) value) × (now ≤ place + 1)
counted_more aim values value x place count now passes there is few test e =
    let more = rank_more aim values value x place there in
    (e ∙ ap (λ (b : Bool). count + cond b 1 0) test ∙ ap (λ (n : ℕ). n + cond (is_better aim value x) 1 0) is ∙ sym more, at_most passes e)
  where
    at_most : (b : Bool) → now ≡ count + cond b 1 0 → now ≤ place + 1
    at_most true h = omega arith
    at_most false h = omega arith

-- the rank of a value among rising ones
module _ (term : Term) where
  least_ranked : (values : List ℤ) → IsRising values → (place : ℕ) (o : ℤ) → place < length values → rank (Least term) values (slice_index_or values place o) ≡ place
  least_ranked [] h place o l = absurd (omega arith)
  least_ranked (x ∷ xs) h zero o l =
      let rest = none_passes (is_better (Least term) x) xs (λ j d m. lt_not x (slice_index_or xs j d) (h 0 (suc j) d (omega arith) (omega arith))) in
      rw (lt_itself x) rest
  least_ranked (x ∷ xs) h (suc place) o l =
      let rest = least_ranked xs (λ i j d m n. h (suc i) (suc j) d (omega arith) (omega arith)) place o (omega arith) in
      rw (lt_is x (slice_index_or xs place o) (h 0 (suc place) o (omega arith) (omega arith))) (omega (arith, rest))

  greatest_ranked : (values : List ℤ) → IsRising values → (place : ℕ) (o : ℤ) → place < length values → rank (Greatest term) values (slice_index_or values place o) + suc place ≡ length values
  greatest_ranked [] h place o l = absurd (omega arith)
  greatest_ranked (x ∷ xs) h zero o l =
      let rest = all_pass (is_better (Greatest term) x) xs (λ j d m. lt_is x (slice_index_or xs j d) (h 0 (suc j) d (omega arith) (omega arith))) in
      rw (lt_itself x) (omega (arith, rest))
  greatest_ranked (x ∷ xs) h (suc place) o l =
      let rest = greatest_ranked xs (λ i j d m n. h (suc i) (suc j) d (omega arith) (omega arith)) place o (omega arith) in
      rw (lt_not x (slice_index_or xs place o) (h 0 (suc place) o (omega arith) (omega arith))) (omega (arith, rest))

pub rank_of_ranked : (aim : Aim) (var : ℕ) (values : List ℤ) → aimed_at aim ≡ Some var → IsRising values → (place : ℕ) (o : ℤ) → place < length values → rank aim values (value_ranked aim values place o) ≡ place
rank_of_ranked Satisfy var values at rising place o l = cc
rank_of_ranked (Least term) var values at rising place o l = least_ranked term values rising place o l
rank_of_ranked (Greatest term) var values at rising place o l =
    let is = greatest_ranked term values rising (length values - 1 - place) o (omega arith) in
    omega (arith, is)

-- ---- the value that is to be bettered

rank_most : (aim : Aim) (values : List ℤ) (value : ℤ) → rank aim values value ≤ length values
rank_most aim values value = length_filter (is_better aim value) values

module _ (halves : Bool) (aim : Aim) (var : ℕ) (at : aimed_at aim ≡ Some var) (values : List ℤ) (rising : halves ≡ true → IsRising values) (best : ℤ) (limit : Option ℤ) where
  abbrev many : ℕ
  many = candidates aim values best limit

  abbrev left : ℕ
  left = left_out halves many

  -- at most half of the candidates are left out, and none where it is not by halves
  pub left_few : left + left ≤ many
  left_few = by halves where
    by : (h : Bool) → left_out h many + left_out h many ≤ many
    by true = omega arith
    by false = omega arith

  pub left_half : halves ≡ true → many ≤ left + left + 2
  left_half is_so = subst (λ (h : Bool). many ≤ left_out h many + left_out h many + 2) (sym is_so) (omega arith)

  beyond_rank : (n : ℕ) → left ≡ n → rank aim values (value_beyond aim values best n) ≡ rank aim values best - n
  beyond_rank zero e = omega arith
  beyond_rank (suc n) e = rank_of_ranked aim var values at (rising (by halves refl)) (rank aim values best - suc n) best (let few = rank_most aim values best in let half = left_few in omega (arith, few, half, e)) where
    by : (h : Bool) → halves ≡ h → halves ≡ true
    by true is_so = is_so
    by false not_so = absurd (let none : left_out false many ≡ suc n = subst (λ (h : Bool). left_out h many ≡ suc n) not_so e in cc)

  -- its rank is that of the best value less so many as are left out
  pub next_rank : rank aim values (next_value halves aim values best limit) ≡ rank aim values best - left
  next_rank = beyond_rank left refl

  beyond_or : (n : ℕ) → left ≡ n → (value_beyond aim values best n ≡ best) ⊎ (is_better aim best (value_beyond aim values best n) ≡ true)
  beyond_or zero e = inl refl
  beyond_or (suc n) e = by (is_better aim best (value_beyond aim values best (suc n))) refl where
    by : (b : Bool) → is_better aim best (value_beyond aim values best (suc n)) ≡ b → (value_beyond aim values best (suc n) ≡ best) ⊎ (is_better aim best (value_beyond aim values best (suc n)) ≡ true)
    by true is_so = inr is_so
    by false not_so =
        let less = rank_no_less aim values best (value_beyond aim values best (suc n)) not_so in
        let is = beyond_rank (suc n) e in
        let half = left_few in
        absurd (omega (arith, less, is, half, e))

  -- it is the best value itself, or a better one
  pub next_or : (next_value halves aim values best limit ≡ best) ⊎ (is_better aim best (next_value halves aim values best limit) ≡ true)
  next_or = beyond_or left refl

  -- where it is a better one, some candidates are left out
  pub left_some : is_better aim best (next_value halves aim values best limit) ≡ true → 1 ≤ left
  left_some better = by left refl where
    by : (n : ℕ) → left ≡ n → 1 ≤ left
    by zero none = absurd (
        let itself : is_better aim best best ≡ true = subst (λ (n : ℕ). is_better aim best (value_beyond aim values best n) ≡ true) none better in
        let not_itself = better_itself aim best in
        let clash : true ≡ false = sym itself ∙ not_itself in
        cc
        )
    by (suc n) some = omega (arith, some)

-- without values it is the best value itself
pub none_next : (halves : Bool) (aim : Aim) (best : ℤ) (limit : Option ℤ) {values : List ℤ} → values ≡ [] → next_value halves aim values best limit ≡ best
none_next halves aim best limit {values = values} e = subst (λ (l : List ℤ). next_value halves aim l best limit ≡ best) (sym e) (by halves limit) where
  by : (h : Bool) (o : Option ℤ) → next_value h aim [] best o ≡ best
  by true None = refl
  by true (Some x) = refl
  by false o = refl

-- an allowed value's rank is none of the excluded ones'
pub allowed_rank : (aim : Aim) (values : List ℤ) (limit : Option ℤ) (value : ℤ) → IsAllowed aim limit value → excluded aim values limit ≤ rank aim values value
allowed_rank aim values None value ok = omega arith
allowed_rank aim values (Some limit) value ok = rank_no_less aim values limit value ok

-- two values neither of which is better are one
pub neither_better : (aim : Aim) (var : ℕ) (a b : ℤ) → aimed_at aim ≡ Some var → is_better aim a b ≡ false → is_better aim b a ≡ false → a ≡ b
neither_better Satisfy var a b at h k = cc
neither_better (Least term) var a b at h k = lt_neither a b k h
neither_better (Greatest term) var a b at h k = lt_neither a b h k
