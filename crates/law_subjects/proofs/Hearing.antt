-- A sensor hears few of those behind it: at most two rows further, and in five columns.
use Rattle.std.proofs.Common.{◌≡◌, ℕ, zero, suc, ◌+◌, ◌-◌, ◌*◌, ◌/◌, ◌%◌, ◌<◌, ◌≤◌, Bool, true, false, not, List, [], ◌∷◌, map, filter, length, ap, ◌∙◌, refl, length-append, arith, inl, inr}
use Rattle.std.proofs.Math.Nat.{div-mul-le_self, div-add-mod}
use Rattle.std.specs.Prelude.{if◌then◌else◌}
use Rattle.std.specs.List.{range_with_len, AllByRecursion}
use Rattle.std.proofs.lemmas.Bool.Decides.{eqb_tells}
use Rattle.std.proofs.lemmas.List.Elements.{filter-append}
use Rattle.std.proofs.lemmas.Nat.{le-div}
use Rattle.dcsp_defs.proofs.Lists.{and_left, and_right}
use Rattle.dcsp_gen.specs.Lists.{pairs_in}
use Rattle.dcsp_gen.specs.Selection.{chooses, selected, wanted_after}
use Rattle.dcsp_gen.specs.Sensors.{is_near, hear, hearing}
use Rattle.dcsp_gen.proofs.Selecting.{once_more}
use Rattle.law_subjects.proofs.Folded.{all_filtered}
use Rattle.law_subjects.proofs.Lists.{all_weaker, all_range}
use Rattle.law_subjects.proofs.Tables.{le_from, all_selected}

-- each number is less than all later ones
abbrev pub Rises : List ℕ → Type 0
Rises [] = Unit {0}
Rises (x ∷ xs) = AllByRecursion (λ y. x < y) xs × Rises xs

-- a range rises
pub rises_range : (low count : ℕ) → Rises (range_with_len low count)
rises_range low zero = tt
rises_range low (suc count) = (all_range (λ y. low < y) (low + 1) count (λ y l r. omega (arith, l)), rises_range (low + 1) count)

-- so does what is selected of what rises
pub rises_selected : (kept : Bool) (words : ℕ → ℕ) (wanted : ℕ) (xs : List ℕ) → Rises xs → Rises (selected kept words wanted xs)
rises_selected kept words wanted [] h = tt
rises_selected kept words wanted (x ∷ xs) h =
    let chosen = chooses (words 0) wanted (suc (length xs)) in
    let later = selected kept (λ k. words (suc k)) (wanted_after chosen wanted) xs in
    by later (all_selected (λ y. x < y) kept (λ k. words (suc k)) (wanted_after chosen wanted) xs h.0) (rises_selected kept (λ k. words (suc k)) (wanted_after chosen wanted) xs h.1) (if kept then chosen else not chosen)
  where
    by : (rest : List ℕ) → AllByRecursion (λ y. x < y) rest → Rises rest → (b : Bool) → Rises (if b then x ∷ rest else rest)
    by rest above r true = (above, r)
    by rest above r false = r

-- what holds of each holds of those that pass
all_kept : (P : ℕ → Type 0) (p : ℕ → Bool) (xs : List ℕ) → AllByRecursion P xs → AllByRecursion P (filter p xs)
all_kept P p xs h = all_weaker (λ x. P x × (p x ≡ true)) P (filter p xs) (λ x both. both.0) (all_filtered P p xs h)

-- what passes a test of what rises, rises
pub rises_filter : (p : ℕ → Bool) (xs : List ℕ) → Rises xs → Rises (filter p xs)
rises_filter p [] h = tt
rises_filter p (x ∷ xs) h = by (filter p xs) (all_kept (λ y. x < y) p xs h.0) (rises_filter p xs h.1) (p x) where
  by : (rest : List ℕ) → AllByRecursion (λ y. x < y) rest → Rises rest → (b : Bool) → Rises (if b then x ∷ rest else rest)
  by rest above r true = (above, r)
  by rest above r false = r

-- rising numbers with rising codes below a bound are few
above_code : (f : ℕ → ℕ) (P : ℕ → Type 0) → ((y z : ℕ) → P y → P z → y < z → f y < f z) → (y : ℕ) → P y → (zs : List ℕ) → AllByRecursion P zs → AllByRecursion (λ z. y < z) zs → AllByRecursion (λ z. suc (f y) ≤ f z) zs
above_code f P rise y here [] all above = tt
above_code f P rise y here (z ∷ zs) all above = ((let more = rise y z here all.0 above.0 in omega (arith, more)), above_code f P rise y here zs all.1 above.1)

-- from a lowest code on
few_codes : (f : ℕ → ℕ) (P : ℕ → Type 0) (most : ℕ) → ((y : ℕ) → P y → f y < most) → ((y z : ℕ) → P y → P z → y < z → f y < f z) → (low : ℕ) (ys : List ℕ) → AllByRecursion P ys → Rises ys → AllByRecursion (λ y. low ≤ f y) ys
    → length ys ≤ most - low
few_codes f P most small rise low [] all rises lows = omega arith
few_codes f P most small rise low (y ∷ ys) all rises lows =
    let here = small y all.0 in
    let least = lows.0 in
    let rest = few_codes f P most small rise (suc (f y)) ys all.1 rises.1 (above_code f P rise y all.0 ys all.1 rises.0) in
    omega (arith, here, least, rest)

-- what a test passes of what a function makes
filter_map_length : (p : ℕ × ℕ → Bool) (f : ℕ → ℕ × ℕ) (xs : List ℕ) → length (filter p (map f xs)) ≡ length (filter (λ x. p (f x)) xs)
filter_map_length p f [] = refl
filter_map_length p f (x ∷ xs) = by (p (f x)) (filter_map_length p f xs) where
  by : (b : Bool) → length (filter p (map f xs)) ≡ length (filter (λ x. p (f x)) xs) → length (if b then f x ∷ filter p (map f xs) else filter p (map f xs)) ≡ length (if b then x ∷ filter (λ x. p (f x)) xs else filter (λ x. p (f x)) xs)
  by true rest = ap suc rest
  by false rest = rest

-- near numbers
near_is : (a b : ℕ) → is_near a b ≡ true → (a ≤ b + 2) × (b ≤ a + 2)
near_is a b e = let close = le_from ((a - b) + (b - a)) 2 e in (omega (arith, close), omega (arith, close))

module _ (side : ℕ) (some : 0 < side) where
  -- the row of a sensor
  abbrev row : ℕ → ℕ
  row y = (y - 1) / side

  -- its column
  abbrev column : ℕ → ℕ
  column y = (y - 1) % side

  -- a later sensor is in no earlier row
  rows_rise : (y z : ℕ) → y < z → row y ≤ row z
  rows_rise y z less =
      let down = div-mul-le_self (y - 1) side in
      le-div ((y - 1) / side) (z - 1) side some (omega (arith, down, less))

  -- and further right in the same row
  columns_rise : (y z : ℕ) → 1 ≤ y → y < z → row y ≡ row z → column y < column z
  columns_rise y z one less same =
      let first = div-add-mod (y - 1) side in
      let second = div-add-mod (z - 1) side in
      let product : side * ((y - 1) / side) ≡ side * ((z - 1) / side) = ap (λ (k : ℕ). side * k) same in
      omega (arith, first, second, product, one, less)

  -- where a later sensor is that hears x
  record IsHeard (x y : ℕ) : Type 0 where
    after : x < y
    below : row x ≤ row y
    rows : row y ≤ row x + 2
    left : column x ≤ column y + 2
    right : column y ≤ column x + 2

  -- a later sensor that hears x is there
  is_heard : (x y : ℕ) → x < y → hear side (x, y) ≡ true → IsHeard x y
  is_heard x y less e =
      let rows = near_is (row x) (row y) (and_left (is_near (row x) (row y)) (is_near (column x) (column y)) e) in
      let columns = near_is (column x) (column y) (and_right (is_near (row x) (row y)) (is_near (column x) (column y)) e) in
      record { after = less; below = rows_rise x y less; rows = rows.1; left = columns.0; right = columns.1 }

  -- its place among the fifteen that there may be
  code : ℕ → ℕ → ℕ
  code x y = 5 * (row y - row x) + (column y + 2 - column x)

  -- which is one of fifteen
  code_small : (x y : ℕ) → IsHeard x y → code x y < 15
  unfolding code
  code_small x y h =
      let a = h.below in
      let b = h.rows in
      let c = h.left in
      let d = h.right in
      omega (arith, a, b, c, d)

  -- and rises with the sensor
  code_rises : (x y z : ℕ) → IsHeard x y → IsHeard x z → y < z → code x y < code x z
  unfolding code
  code_rises x y z h k less =
      let a = h.below in
      let c = h.left in
      let d = h.right in
      let e = k.below in
      let g = k.left in
      let one = h.after in
      let up = rows_rise y z less in
      elim (eqb_tells (row y) (row z)) [
        | inl same ↦ let here = same.1 in let further = columns_rise y z (omega (arith, one)) less same.1 in omega (arith, a, c, d, e, g, up, here, further)
        | inr other ↦ let apart = other.1 in omega (arith, a, c, d, e, g, up, apart)
      ]

  -- so at most fifteen later sensors hear x
  heard_few : (x : ℕ) (xs : List ℕ) → AllByRecursion (λ y. x < y) xs → Rises xs → length (filter (λ y. hear side (x, y)) xs) ≤ 15
  heard_few x xs above rises =
      let heard = filter (λ y. hear side (x, y)) xs in
      let all = all_weaker (λ y. (x < y) × (hear side (x, y) ≡ true)) (IsHeard x) heard (λ y h. is_heard x y h.0 h.1) (all_filtered (λ y. x < y) (λ y. hear side (x, y)) xs above) in
      let few = few_codes (code x) (IsHeard x) 15 (code_small x) (code_rises x) 0 heard all (rises_filter (λ y. hear side (x, y)) xs rises) (all_weaker (IsHeard x) (λ y. 0 ≤ code x y) heard (λ y h. omega arith) all) in
      omega (arith, few)

  -- and there are at most fifteen pairs for each sensor
  pub hearing_few : (xs : List ℕ) → Rises xs → length (hearing side xs) ≤ length xs * 15
  hearing_few [] rises = omega arith
  hearing_few (x ∷ xs) rises =
      let beside : List (ℕ × ℕ) = map (λ second. (x, second)) xs in
      let parts : length (hearing side (x ∷ xs)) ≡ length (filter (hear side) beside) + length (hearing side xs) =
      ap (λ (ps : List (ℕ × ℕ)). length ps) (filter-append (hear side) beside (pairs_in xs)) ∙ length-append (filter (hear side) beside) (hearing side xs) in
      let size = filter_map_length (hear side) (λ second. (x, second)) xs in
      let here = heard_few x xs rises.0 rises.1 in
      let rest = hearing_few xs rises.1 in
      let more : suc (length xs) * 15 ≡ 15 + length xs * 15 = once_more (length xs) 15 in
      omega (arith, parts, size, here, rest, more)
