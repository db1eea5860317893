-- Running sums by blocks.
use Rattle.std.proofs.Common.{◌≡◌, ◌≢◌, ℕ, zero, suc, ◌+◌, ◌-◌, ◌*◌, ◌/◌, ◌<◌, ◌≤◌, inl, inr, List, [], ◌∷◌, length, get_or, set, take, drop, sum, replicate, refl, sym, ◌∙◌, ap, subst, arith}
use Rattle.std.proofs.lemmas.Bool.{cases_eq, cases_lt}
use Rattle.std.proofs.lemmas.List.{length-set, take_all, take-set-le, take-take, drop-take, get_or-set_same, get_or-set_other, get_or-take, length-replicate, get_or_read, get_or_past, drop-replicate, get_or-replicate}
use Rattle.std.proofs.lemmas.List.Sums.{sum_by-set, sum_by-take-drop, sum_by-take-le, sum_by_more}
use Rattle.std.proofs.Math.Nat.{mul-add, mul-div-le, lt-mul-div-succ, mul-le-mul_left, lt_of_mul-lt-mul_left, le_of_mul-le-mul_left, div-le_of_le-mul}
use Rattle.abt_links.specs.Blocks.{IsBlocked, AreGroups, AreSummed}

-- ---- one block on

pub take_block : (counts : List ℕ) (n m : ℕ) → sum (take (n + m) counts) ≡ sum (take n counts) + sum (take m (drop n counts))
take_block counts n m =
    sym (sum_by-take-drop (λ x. x) (take (n + m) counts) n)
    ∙ ap (λ l. sum l + sum (drop n (take (n + m) counts))) (take-take n (n + m) counts (omega arith))
    ∙ ap (λ l. sum (take n counts) + sum l) (drop-take n m counts)

pub block_more : (w : ℕ) (counts : List ℕ) (b : ℕ) → sum (take (w * (b + 1)) counts) ≡ sum (take (w * b) counts) + sum (take w (drop (w * b) counts))
block_more w counts b =
    let next : w * (b + 1) ≡ w * b + w = omega (arith, mul-add w b 1) in
    ap (λ n. sum (take n counts)) next ∙ take_block counts (w * b) w

-- ---- where a place's block begins and ends

own_start : (w p b : ℕ) → b ≡ p / w → w * b ≤ p
own_start w p b at = let same : w * b ≡ w * (p / w) = ap (λ n. w * n) at in omega (arith, same, mul-div-le p w)

own_end : (w p b : ℕ) → 0 < w → b ≡ p / w → p < w * (b + 1)
own_end w p b wide at =
    let same : w * (b + 1) ≡ w * (p / w + 1) = ap (λ n. w * (n + 1)) at in
    let less : p < w * (p / w + 1) = lt-mul-div-succ p wide in
    omega (arith, same, less)

-- the blocks before it end before it, and those behind it begin behind it
earlier_end : (w p b : ℕ) → b < p / w → w * (b + 1) ≤ p
earlier_end w p b less =
    let over : w * (b + 1) ≤ w * (p / w) = mul-le-mul_left w (omega arith) in
    omega (arith, over, mul-div-le p w)

later_start : (w p b : ℕ) → 0 < w → p / w < b → p < w * b
later_start w p b wide more =
    let over : w * (p / w + 1) ≤ w * b = mul-le-mul_left w (omega arith) in
    let less : p < w * (p / w + 1) = lt-mul-div-succ p wide in
    omega (arith, over, less)

-- ---- a count changes

pub set_before : (counts : List ℕ) (p y n : ℕ) → n ≤ p → sum (take n (set counts p y)) ≡ sum (take n counts)
set_before counts p y n h = ap sum (take-set-le n counts p y h)

take_set : (counts : List ℕ) (p y n : ℕ) → p < n → take n (set counts p y) ≡ set (take n counts) p y
take_set counts p y zero h = absurd (omega arith)
take_set [] p y (suc n) h = refl
take_set (x ∷ xs) zero y (suc n) h = refl
take_set (x ∷ xs) (suc p) y (suc n) h = ap (λ l. x ∷ l) (take_set xs p y n (omega arith))

take_long : (counts : List ℕ) (p n : ℕ) → p < n → p < length counts → p < length (take n counts)
take_long counts p zero h i = absurd (omega arith)
take_long [] p (suc n) h i = absurd (omega arith)
take_long (x ∷ xs) zero (suc n) h i = omega arith
take_long (x ∷ xs) (suc p) (suc n) h i = let ih : p < length (take n xs) = take_long xs p n (omega arith) (omega arith) in omega arith

pub set_after : (counts : List ℕ) (p y n : ℕ) → p < n → p < length counts → sum (take n (set counts p y)) + get_or counts p 0 ≡ sum (take n counts) + y
set_after counts p y n h inside =
    ap (λ l. sum l + get_or counts p 0) (take_set counts p y n h)
    ∙ ap (λ x. sum (set (take n counts) p y) + x) (sym (get_or-take n counts p 0 h))
    ∙ sum_by-set (λ x. x) (take n counts) p y 0 (take_long counts p n h inside)

-- the block of the place has as much more
pub own_block : (w : ℕ) (counts : List ℕ) (p y b : ℕ) → 0 < w → p < length counts → b ≡ p / w → sum (take w (drop (w * b) (set counts p y))) + get_or counts p 0 ≡ sum (take w (drop (w * b) counts)) + y
own_block w counts p y b wide inside at =
    omega (arith, block_more w counts b, block_more w (set counts p y) b, set_before counts p y (w * b) (own_start w p b at), set_after counts p y (w * (b + 1)) (own_end w p b wide at) inside)

pub other_block : (w : ℕ) (counts : List ℕ) (p y b : ℕ) → 0 < w → p < length counts → b ≢ p / w → sum (take w (drop (w * b) (set counts p y))) ≡ sum (take w (drop (w * b) counts))
other_block w counts p y b wide inside other = elim (cases_lt b (p / w)) [
  | inl less ↦
      let ends : w * (b + 1) ≤ p = earlier_end w p b less in
      let starts : w * b ≤ p = omega (arith, ends, mul-add w b 1) in
      omega (arith, block_more w counts b, block_more w (set counts p y) b, set_before counts p y (w * b) starts, set_before counts p y (w * (b + 1)) ends)
  | inr more ↦
      let above : p / w < b = elim (cases_eq b (p / w)) [ inl same ↦ absurd (other same) | inr _ ↦ elim (cases_lt (p / w) b) [ inl l ↦ l | inr m ↦ absurd (other (omega arith)) ] ] in
      let starts : p < w * b = later_start w p b wide above in
      let ends : p < w * (b + 1) = omega (arith, starts, mul-add w b 1) in
      omega (arith, block_more w counts b, block_more w (set counts p y) b, set_after counts p y (w * b) starts inside, set_after counts p y (w * (b + 1)) ends inside)
]

pub within_block : (w : ℕ) (counts : List ℕ) (p b : ℕ) → 0 < w → p < length counts → b ≡ p / w → get_or counts p 0 ≤ sum (take w (drop (w * b) counts))
within_block w counts p b wide inside at = omega (arith, own_block w counts p 0 b wide inside at)

pub block_within : (w : ℕ) (counts : List ℕ) (b : ℕ) → sum (take w (drop (w * b) counts)) ≤ sum counts
block_within w counts b = omega (arith, block_more w counts b, sum_by-take-le (λ x. x) counts (w * (b + 1)))

-- the block of a place
pub has_block : (w : ℕ) (counts blocks : List ℕ) (total p : ℕ) → IsBlocked w counts blocks total → p < length counts → p / w < length blocks
has_block w counts blocks total p blocked inside =
    let under : w * (p / w) < w * length blocks = omega (arith, mul-div-le p w, blocked.long) in
    lt_of_mul-lt-mul_left w under

pub count_fits : (w : ℕ) (counts blocks : List ℕ) (total p : ℕ) → IsBlocked w counts blocks total → p < length counts → get_or counts p 0 ≤ get_or blocks (p / w) 0
count_fits w counts blocks total p blocked inside = omega (arith, within_block w counts p (p / w) blocked.wide inside refl, blocked.each (p / w) (has_block w counts blocks total p blocked inside))

pub block_fits : (w : ℕ) (counts blocks : List ℕ) (total p : ℕ) → IsBlocked w counts blocks total → p < length counts → get_or blocks (p / w) 0 ≤ total
block_fits w counts blocks total p blocked inside = omega (arith, block_within w counts (p / w), blocked.each (p / w) (has_block w counts blocks total p blocked inside), blocked.whole)

-- the count, the block's sum and the total change alike
pub set-blocked : (w : ℕ) (counts blocks : List ℕ) (total total' p y z : ℕ) → IsBlocked w counts blocks total → p < length counts
    → z + get_or counts p 0 ≡ get_or blocks (p / w) 0 + y → total' + get_or counts p 0 ≡ total + y
    → IsBlocked w (set counts p y) (set blocks (p / w) z) total'
set-blocked w counts blocks total total' p y z blocked inside block whole =
    let there : p / w < length blocks = has_block w counts blocks total p blocked inside in
    record {
      small = omega (arith, length-set counts p y, blocked.small);
      few = omega (arith, length-set blocks (p / w) z, blocked.few);
      wide = blocked.wide;
      narrow = blocked.narrow;
      long = subst (λ n. length (set counts p y) ≤ w * n) (sym (length-set blocks (p / w) z)) (omega (arith, length-set counts p y, blocked.long));
      each = λ b less.
          let less' : b < length blocks = omega (arith, length-set blocks (p / w) z) in
          elim (cases_eq b (p / w)) [
            | inl here ↦
                omega (arith, ap (λ j. get_or (set blocks (p / w) z) j 0) here, get_or-set_same blocks (p / w) z 0 there, own_block w counts p y b blocked.wide inside here, blocked.each b less', ap (λ j. get_or blocks j 0) here)
            | inr other ↦ get_or-set_other blocks (p / w) b z 0 other ∙ blocked.each b less' ∙ sym (other_block w counts p y b blocked.wide inside other)
          ];
      whole = omega (arith, sum_by-set (λ x. x) counts p y 0 inside, blocked.whole);
    }

-- ---- none yet

zeros : (n : ℕ) → sum (replicate n 0) ≡ 0
zeros zero = refl
zeros (suc n) = zeros n

zero_block : (n j k : ℕ) → sum (take k (drop j (replicate n 0))) ≡ 0
zero_block n j k = let le : sum (take k (drop j (replicate n 0))) ≤ sum (drop j (replicate n 0)) = sum_by-take-le (λ x. x) (drop j (replicate n 0)) k in
    omega (arith, ap sum (drop-replicate j n 0), zeros (n - j))

-- as many blocks as it takes
pub enough_blocks : (w size : ℕ) → 0 < w → size ≤ w * ((size + w - 1) / w)
enough_blocks w size wide =
    let more : size + w - 1 < w * ((size + w - 1) / w + 1) = lt-mul-div-succ (size + w - 1) wide in
    omega (arith, more, mul-add w ((size + w - 1) / w) 1)

pub few_blocks : (w size : ℕ) → 0 < w → size ≤ 4096 → (size + w - 1) / w ≤ 4096
few_blocks w size wide small = div-le_of_le-mul w (omega arith)

pub no-blocked : (w size m : ℕ) → size ≤ 4096 → m ≤ 4096 → 0 < w → w ≤ 64 → size ≤ w * m → IsBlocked w (replicate size 0) (replicate m 0) 0
no-blocked w size m small few wide narrow long = record {
  small = omega (arith, length-replicate {A = ℕ} size 0);
  few = omega (arith, length-replicate {A = ℕ} m 0);
  wide = wide;
  narrow = narrow;
  long = subst (λ n. length {A = ℕ} (replicate size 0) ≤ w * n) (sym (length-replicate {A = ℕ} m 0)) (omega (arith, length-replicate {A = ℕ} size 0));
  each = λ b less. get_or-replicate m b 0 0 (omega (arith, length-replicate {A = ℕ} m 0)) ∙ sym (zero_block size (w * b) w);
  whole = sym (zeros size);
}

pub no-summed : (w size m g : ℕ) → size ≤ 4096 → m ≤ 4096 → g ≤ 4096 → 0 < w → w ≤ 64 → size ≤ w * m → (0 < g → m ≤ 16 * g) → AreSummed w (replicate size 0) (replicate m 0) (replicate g 0) 0
no-summed w size m g small few fewer wide narrow long enough = record {
  blocked = no-blocked w size m small few wide narrow long;
  grouped = λ some.
      subst (IsBlocked 16 (replicate m 0) (replicate g 0)) (sym (zeros m))
      (no-blocked 16 m g few fewer (omega arith) (omega arith) (enough (omega (arith, some, length-replicate {A = ℕ} g 0))));
}

-- ---- a search

-- so much of the rest
pub some_left : (w : ℕ) (counts blocks : List ℕ) (total b left : ℕ) → IsBlocked w counts blocks total → b < length blocks → left < get_or blocks b 0 → left < sum (drop (w * b) counts)
some_left w counts blocks total b left blocked there less = omega (arith, blocked.each b there, sum_by-take-le (λ x. x) (drop (w * b) counts) w)

pub next_block : (w : ℕ) (counts blocks : List ℕ) (total b left number : ℕ) → IsBlocked w counts blocks total → b < length blocks → get_or blocks b 0 ≤ left → sum (take (w * b) counts) + left ≡ number
    → sum (take (w * (b + 1)) counts) + (left - get_or blocks b 0) ≡ number
next_block w counts blocks total b left number blocked there enough inv = omega (arith, blocked.each b there, block_more w counts b)

pub no_place : (counts : List ℕ) (start place left number : ℕ) → length counts ≤ place → number < sum (drop start counts) → sum (take place counts) + left ≡ sum (take start counts) + number → ⊥
no_place counts start place left number past some inv =
    absurd (omega (arith, ap sum (take_all place counts past), sum_by-take-drop (λ x. x) counts start))

-- ---- the sum before a place

pub blocks_before : (w : ℕ) (counts blocks : List ℕ) (total b : ℕ) → IsBlocked w counts blocks total → b ≤ length blocks → sum (take b blocks) ≡ sum (take (w * b) counts)
blocks_before w counts blocks total zero blocked h = let none : 0 ≡ w * 0 = omega arith in ap (λ n. sum (take n counts)) none
blocks_before w counts blocks total (suc b) blocked h =
    let more : suc b ≡ b + 1 = omega arith in
    let inside : b < length blocks = omega arith in
    ap (λ n. sum (take n blocks)) more
    ∙ sum_by_more (λ x. x) blocks b 0 inside
    ∙ ap (λ n. n + get_or blocks b 0) (blocks_before w counts blocks total b blocked (omega arith))
    ∙ ap (λ n. sum (take (w * b) counts) + n) (blocked.each b inside)
    ∙ sym (block_more w counts b)
    ∙ ap (λ n. sum (take (w * n) counts)) (sym more)

-- the blocks before the place's own, and the counts of its own before it
-- all blocks have all counts
pub blocks_sum : (w : ℕ) (counts blocks : List ℕ) (total : ℕ) → IsBlocked w counts blocks total → sum blocks ≡ total
blocks_sum w counts blocks total blocked =
    ap sum (sym (take_all (length blocks) blocks (omega arith)))
    ∙ blocks_before w counts blocks total (length blocks) blocked (omega arith)
    ∙ ap sum (take_all (w * length blocks) counts blocked.long)
    ∙ sym blocked.whole

pub before-parts : (w : ℕ) (counts blocks : List ℕ) (total place : ℕ) → IsBlocked w counts blocks total → place ≤ length counts
    → sum (take (place / w) blocks) + sum (take (place - w * (place / w)) (drop (w * (place / w)) counts)) ≡ sum (take place counts)
before-parts w counts blocks total place blocked inside =
    let start : w * (place / w) ≤ place = mul-div-le place w in
    let under : w * (place / w) ≤ w * length blocks = omega (arith, start, blocked.long) in
    let own : place / w ≤ length blocks = le_of_mul-le-mul_left under blocked.wide in
    let whole : w * (place / w) + (place - w * (place / w)) ≡ place = omega (arith, start) in
    ap (λ n. n + sum (take (place - w * (place / w)) (drop (w * (place / w)) counts))) (blocks_before w counts blocks total (place / w) blocked own)
    ∙ sym (take_block counts (w * (place / w)) (place - w * (place / w)))
    ∙ ap (λ n. sum (take n counts)) whole

-- ---- as the code has it

-- b is the block of place p
module _ (w : ℕ) (counts blocks : List ℕ) (total p x b z : ℕ) (blocked : IsBlocked w counts blocks total) (inside : p < length counts) (read : x ≡ get_or counts p x) (own : b ≡ p / w) (read_block : z ≡ get_or blocks b z) where
  count_is : x ≡ get_or counts p 0
  count_is = get_or_read counts p x inside read 0

  block_is : z ≡ get_or blocks (p / w) 0
  block_is = get_or_read blocks (p / w) z (has_block w counts blocks total p blocked inside) (subst (λ k. z ≡ get_or blocks k z) own read_block) 0

  pub fits_block : x ≤ z
  fits_block = omega (arith, count_is, block_is, count_fits w counts blocks total p blocked inside)

  pub fits_total : z ≤ total
  fits_total = omega (arith, block_is, block_fits w counts blocks total p blocked inside)

-- ---- groups of blocks

-- a block's group
group_inside : (groups blocks : List ℕ) (b : ℕ) → IsBlocked 16 blocks groups (sum blocks) → b < length blocks → get_or groups (b / 16) 0 ≤ sum blocks
group_inside groups blocks b blocked inside = block_fits 16 blocks groups (sum blocks) b blocked inside

pub few_in_group : (groups blocks : List ℕ) (b most : ℕ) → AreGroups groups blocks → b < length blocks → sum blocks < most → get_or groups (b / 16) 0 < most
few_in_group groups blocks b most grouped inside less = elim (cases_lt 0 (length groups)) [
  | inl some ↦ omega (arith, group_inside groups blocks b (grouped some) inside)
  | inr none ↦ omega (arith, get_or_past groups (b / 16) 0 (omega (arith, none)))
]

pub some_in_group : (groups blocks : List ℕ) (b : ℕ) → AreGroups groups blocks → b < length blocks → 0 < get_or blocks b 0 → b / 16 < length groups → 0 < get_or groups (b / 16) 0
some_in_group groups blocks b grouped inside some there =
    omega (arith, count_fits 16 blocks groups (sum blocks) b (grouped (omega (arith, there))) inside)

-- a block and its group change alike
groups_set : (groups blocks : List ℕ) (b y z : ℕ) → AreGroups groups blocks → b < length blocks → (b / 16 < length groups → z + get_or blocks b 0 ≡ get_or groups (b / 16) 0 + y)
    → AreGroups (set groups (b / 16) z) (set blocks b y)
groups_set groups blocks b y z grouped inside alike some =
    let had : 0 < length groups = omega (arith, some, length-set groups (b / 16) z) in
    let blocked = grouped had in
    let there : b / 16 < length groups = has_block 16 blocks groups (sum blocks) b blocked inside in
    set-blocked 16 blocks groups (sum blocks) (sum (set blocks b y)) b y z blocked inside (alike there) (sum_by-set (λ x. x) blocks b y 0 inside)

-- ---- one more, or one less, in each

module _ (w : ℕ) (counts blocks groups : List ℕ) (total p x b z : ℕ) (summed : AreSummed w counts blocks groups total) (inside : p < length counts) (read : x ≡ get_or counts p x) (own : b ≡ p / w) (read_block : z ≡ get_or blocks b z) where
  there : b < length blocks
  there = subst (λ k. k < length blocks) (sym own) (has_block w counts blocks total p summed.blocked inside)

  block_at : z ≡ get_or blocks b 0
  block_at = get_or_read blocks b z there read_block 0

  own_block_at : z ≡ get_or blocks (p / w) 0
  own_block_at = subst (λ k. z ≡ get_or blocks k 0) own block_at

  count_at : x ≡ get_or counts p 0
  count_at = get_or_read counts p x inside read 0

  pub one-more : AreSummed w (set counts p (x + 1)) (set blocks b (z + 1)) (set groups (b / 16) (get_or groups (b / 16) 0 + 1)) (total + 1)
  one-more = record {
    blocked = subst (λ k. IsBlocked w (set counts p (x + 1)) (set blocks k (z + 1)) (total + 1)) (sym own)
        (set-blocked w counts blocks total (total + 1) p (x + 1) (z + 1) summed.blocked inside (omega (arith, count_at, own_block_at)) (omega (arith, count_at)));
    grouped = groups_set groups blocks b (z + 1) (get_or groups (b / 16) 0 + 1) summed.grouped there (λ _. omega (arith, block_at));
  }

  pub one-less : 0 < x → AreSummed w (set counts p (x - 1)) (set blocks b (z - 1)) (set groups (b / 16) (get_or groups (b / 16) 0 - 1)) (total - 1)
  one-less some =
      let fits : x ≤ z = fits_block w counts blocks total p x b z summed.blocked inside read own read_block in
      let holds : z ≤ total = fits_total w counts blocks total p x b z summed.blocked inside read own read_block in
      let least : 0 < get_or blocks b 0 = omega (arith, block_at, fits, some) in
      record {
        blocked = subst (λ k. IsBlocked w (set counts p (x - 1)) (set blocks k (z - 1)) (total - 1)) (sym own)
            (set-blocked w counts blocks total (total - 1) p (x - 1) (z - 1) summed.blocked inside (omega (arith, count_at, own_block_at, fits)) (omega (arith, count_at, fits, holds)));
        grouped = groups_set groups blocks b (z - 1) (get_or groups (b / 16) 0 - 1) summed.grouped there (λ l. omega (arith, block_at, some_in_group groups blocks b summed.grouped there least l));
      }

  pub group_few : total < 4294967295 → get_or groups (b / 16) 0 < 4294967295
  group_few few = few_in_group groups blocks b 4294967295 summed.grouped there (omega (arith, few, blocks_sum w counts blocks total summed.blocked))

  pub group_some : 0 < x → b / 16 < length groups → 0 < get_or groups (b / 16) 0
  group_some some l =
      let fits : x ≤ z = fits_block w counts blocks total p x b z summed.blocked inside read own read_block in
      some_in_group groups blocks b summed.grouped there (omega (arith, block_at, fits, some)) l

pub is_some : (counts : List ℕ) (p x : ℕ) → p < length counts → x ≡ get_or counts p x → 0 < get_or counts p 0 → 0 < x
is_some counts p x inside read some = omega (arith, get_or_read counts p x inside read 0)
