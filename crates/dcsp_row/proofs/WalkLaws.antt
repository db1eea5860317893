-- Walks over the marked places of a row.
use Rattle.std.proofs.Common.{w64, bit_and, ◌≡◌, ◌≢◌, ◌==◌, ◌&&◌, ℕ, zero, suc, ◌+◌, ◌-◌, ◌*◌, ◌/◌, ◌%◌, ◌^◌, ◌<◌, ◌≤◌, Bool, true, false, List, length, get_or, nat_le, nat_lt, refl, sym, ◌∙◌, ap, inl, inr, arith}
use Rattle.std.specs.Int.{bit_at, trailing_zeros}
use Rattle.std.specs.Int.Bits.{and_step, and_self}
use Rattle.std.proofs.Common.{le-leb, leb-true, le-ltb, lt-ltb}
use Rattle.std.proofs.lemmas.Bool.{cases_eq, cases_lt, lt-leb}
use Rattle.std.proofs.lemmas.List.{get_or_past}
use Rattle.std.proofs.lemmas.Nat.Bits.{bit_at-suc, bit_at_lowest, bit_at-zero, bit_at-trailing_zeros}
use Rattle.dcsp_row.specs.declared.walk.Walk.{Walk}
use Rattle.dcsp_row.specs.Walks.{IsOn, NoneBetween, HasMarkIn}
use Rattle.dcsp_row.proofs.WordLaws.{shared_bit}

odd_half : (w : ℕ) → w % 2 ≡ 1 → bit_and w (w - 1) / 2 ≡ w / 2
odd_half w odd =
    let step = and_step w (w - 1) in
    let half : bit_and w (w - 1) / 2 ≡ bit_and (w / 2) ((w - 1) / 2) = omega (arith, step) in
    let down : (w - 1) / 2 ≡ w / 2 = omega arith in
    half ∙ ap (bit_and (w / 2)) down ∙ and_self (w / 2)

even_half : (w : ℕ) → 0 < w → w % 2 ≡ 0 → bit_and w (w - 1) / 2 ≡ bit_and (w / 2) (w / 2 - 1)
even_half w some even =
    let step = and_step w (w - 1) in
    let half : bit_and w (w - 1) / 2 ≡ bit_and (w / 2) ((w - 1) / 2) = omega (arith, step) in
    let down : (w - 1) / 2 ≡ w / 2 - 1 = omega arith in
    half ∙ ap (bit_and (w / 2)) down

no_unit : (w : ℕ) → bit_and w (w - 1) % 2 ≡ 0
no_unit w = let step = and_step w (w - 1) in omega (arith, step)

even_stays : (i j w : ℕ) → j < suc i → bit_at w j ≡ 1 → w % 2 ≡ 0 → ((m : ℕ) → m < i → bit_at (w / 2) m ≡ 1 → bit_at (bit_and (w / 2) (w / 2 - 1)) i ≡ bit_at (w / 2) i)
    → bit_at (bit_and w (w - 1) / 2) i ≡ bit_at (w / 2) i
even_stays i zero w l on even again = absurd (omega (arith, bit_at_lowest w))
even_stays i (suc j) w l on even again =
    let some : 0 < w = elim (cases_eq w 0) [ inl none ↦ absurd (omega (arith, on, ap (λ n. bit_at n (suc j)) none, bit_at-zero (suc j))) | inr more ↦ omega arith ] in
    ap (λ n. bit_at n i) (even_half w some even) ∙ again j (omega arith) (sym (bit_at-suc w j) ∙ on)

-- a bit above one that is set stays as it is where the lowest is cleared
pub above_stays : (i j w : ℕ) → j < i → bit_at w j ≡ 1 → bit_at (bit_and w (w - 1)) i ≡ bit_at w i
above_stays zero j w l on = absurd (omega arith)
above_stays (suc i) j w l on =
    bit_at-suc (bit_and w (w - 1)) i
    ∙ elim (cases_eq (w % 2) 1) [
      | inl odd ↦ ap (λ n. bit_at n i) (odd_half w odd)
      | inr other ↦ even_stays i j w l on (omega arith) (λ m low set. above_stays i m (w / 2) low set)
    ]
    ∙ sym (bit_at-suc w i)

-- up to the lowest bit none is left
pub below_cleared : (i w : ℕ) → 0 < w → ((j : ℕ) → j < i → bit_at w j ≡ 0) → bit_at (bit_and w (w - 1)) i ≡ 0
below_cleared zero w some none = bit_at_lowest (bit_and w (w - 1)) ∙ no_unit w
below_cleared (suc i) w some none =
    let even : w % 2 ≡ 0 = sym (bit_at_lowest w) ∙ none 0 (omega arith) in
    bit_at-suc (bit_and w (w - 1)) i
    ∙ ap (λ n. bit_at n i) (even_half w some even)
    ∙ below_cleared i (w / 2) (omega arith) (λ j l. sym (bit_at-suc w j) ∙ none (suc j) (omega arith))

both : (a b : Bool) → true ≡ (a && b) → (a ≡ true) × (b ≡ true)
both true b e = (refl, sym e)
both false b e = absurd cc

neither : (a b : Bool) → a ≡ true → false ≡ (a && b) → b ≡ false
neither a b holds e = sym (e ∙ ap (λ x. x && b) holds)

-- what is marked is a place of the row
pub marked_inside : (row : List Bool) (k : ℕ) → get_or row k false ≡ true → k < length row
marked_inside row k on = elim (cases_lt k (length row)) [
  | inl within ↦ within
  | inr past ↦ let none : false ≡ true = sym (get_or_past row k false past) ∙ on in absurd cc
]

-- the lowest bit of a walk is that of the first marked place that is not passed
module _ (row : List Bool) (w : Walk) (on : IsOn row w) (some : w.bits ≢ 0) (fits : w.bits < 2 ^ 64) where
  more : 0 < w.bits
  more = omega (arith, some)

  lowest : (trailing_zeros w64 w.bits < 64) × (bit_at w.bits (trailing_zeros w64 w.bits) ≡ 1) × ((i : ℕ) → i < trailing_zeros w64 w.bits → bit_at w.bits i ≡ 0)
  lowest = bit_at-trailing_zeros w64 w.bits more fits

  here : (nat_le w.from (w.first + trailing_zeros w64 w.bits) ≡ true) × (get_or row (w.first + trailing_zeros w64 w.bits) false ≡ true)
  here = both _ _ (sym (ap (λ b. b == 1) lowest.1) ∙ on.marks (trailing_zeros w64 w.bits) lowest.0)

  pub lowest_inside : trailing_zeros w64 w.bits < 64
  lowest_inside = lowest.0

  pub lowest_marked : get_or row (w.first + trailing_zeros w64 w.bits) false ≡ true
  lowest_marked = here.1

  pub lowest_within : (w.from ≤ w.first + trailing_zeros w64 w.bits) × (w.first + trailing_zeros w64 w.bits < length row)
  lowest_within = (leb-true w.from (w.first + trailing_zeros w64 w.bits) here.0, marked_inside row (w.first + trailing_zeros w64 w.bits) here.1)

  pub none_passed : NoneBetween row w.from (w.first + trailing_zeros w64 w.bits)
  none_passed k after before within =
      let inside = on.inside in
      let at : w.first + (k - w.first) ≡ k = omega arith in
      let bit : k - w.first < trailing_zeros w64 w.bits = omega arith in
      let off : bit_at w.bits (k - w.first) ≡ 0 = lowest.2 (k - w.first) bit in
      let low = lowest.0 in
      let marks = on.marks (k - w.first) (omega arith) in
      let later : nat_le w.from (w.first + (k - w.first)) ≡ true = le-leb w.from (w.first + (k - w.first)) (omega arith) in
      sym (ap (λ n. get_or row n false) at) ∙ neither _ _ later (sym (ap (λ b. b == 1) off) ∙ marks)

  pub on_behind : IsOn row (record { from = w.first + trailing_zeros w64 w.bits + 1; first = w.first; bits = bit_and w.bits (w.bits - 1) })
  on_behind = record {
    block = on.block;
    first = on.first;
    near = on.near;
    inside = omega arith;
    passed = let low = lowest.0 in omega arith;
    marks = marks;
  }
    where
      marks : (bit : ℕ) → bit < 64 → (bit_at (bit_and w.bits (w.bits - 1)) bit == 1) ≡ (nat_le (w.first + trailing_zeros w64 w.bits + 1) (w.first + bit) && get_or row (w.first + bit) false)
      marks bit l = elim (cases_lt (trailing_zeros w64 w.bits) bit) [
        | inl above ↦
            let old = on.marks bit l in
            let from = lowest_within.0 in
            let was : nat_le w.from (w.first + bit) ≡ true = le-leb w.from (w.first + bit) (omega arith) in
            let is : nat_le (w.first + trailing_zeros w64 w.bits + 1) (w.first + bit) ≡ true = le-leb (w.first + trailing_zeros w64 w.bits + 1) (w.first + bit) (omega arith) in
            ap (λ b. b == 1) (above_stays bit (trailing_zeros w64 w.bits) w.bits above lowest.1) ∙ old
            ∙ ap (λ x. x && get_or row (w.first + bit) false) (was ∙ sym is)
        | inr below ↦
            let none = below_cleared bit w.bits more (λ j m. lowest.2 j (omega arith)) in
            let is : nat_le (w.first + trailing_zeros w64 w.bits + 1) (w.first + bit) ≡ false = lt-leb (w.first + trailing_zeros w64 w.bits + 1) (w.first + bit) (omega arith) in
            ap (λ b. b == 1) none ∙ sym (ap (λ x. x && get_or row (w.first + bit) false) is)
      ]

-- where a walk has no bit left, nothing in its block is marked that is not passed
pub none_in_block : (row : List Bool) (w : Walk) → IsOn row w → w.bits ≡ 0 → NoneBetween row w.from (w.first + 64)
none_in_block row w on none k after before within =
    let inside = on.inside in
    let at : w.first + (k - w.first) ≡ k = omega arith in
    let off : bit_at w.bits (k - w.first) ≡ 0 = ap (λ n. bit_at n (k - w.first)) none ∙ bit_at-zero (k - w.first) in
    let marks = on.marks (k - w.first) (omega arith) in
    let later : nat_le w.from (w.first + (k - w.first)) ≡ true = le-leb w.from (w.first + (k - w.first)) (omega arith) in
    sym (ap (λ n. get_or row n false) at) ∙ neither _ _ later (sym (ap (λ b. b == 1) off) ∙ marks)

-- what is not between two places nor between the second and a third is not between the first and the third
pub none_joined : (row : List Bool) (from to end : ℕ) → NoneBetween row from to → NoneBetween row to end → NoneBetween row from end
none_joined row from to end one two k after before within = elim (cases_lt k to) [
  | inl low ↦ one k after low within
  | inr high ↦ two k high before within
]

-- a walk begins in a block
pub on_block : (row : List Bool) (block bits : ℕ) → block * 64 ≤ length row → ((bit : ℕ) → bit < 64 → (bit_at bits bit == 1) ≡ get_or row (block * 64 + bit) false)
    → IsOn row (record { from = block * 64; first = block * 64; bits = bits })
on_block row block bits near marks = record {
  block = block;
  first = refl;
  near = near;
  inside = omega arith;
  passed = omega arith;
  marks = λ bit l. let later : nat_le (block * 64) (block * 64 + bit) ≡ true = le-leb (block * 64) (block * 64 + bit) (omega arith) in marks bit l ∙ sym (ap (λ x. x && get_or row (block * 64 + bit) false) later);
}

-- the bits of a word that stand for places of the row
pub bits_inside : (row : List Bool) (block word low size : ℕ) → size ≡ length row → ((bit : ℕ) → bit < 64 → block * 64 + bit < length row → (bit_at word bit == 1) ≡ get_or row (block * 64 + bit) false)
    → ((bit : ℕ) → bit < 64 → (bit_at low bit == 1) ≡ nat_lt (block * 64 + bit) size) → (bit : ℕ) → bit < 64 → (bit_at (bit_and word low) bit == 1) ≡ get_or row (block * 64 + bit) false
bits_inside row block word low size same marks lows bit l = shared_bit word low bit ∙ elim (cases_lt (block * 64 + bit) size) [
  | inl within ↦
      let is : nat_lt (block * 64 + bit) size ≡ true = (lt-ltb (block * 64 + bit) size within) in
      ap (λ x. (bit_at word bit == 1) && x) (lows bit l ∙ is) ∙ right_true (bit_at word bit == 1) ∙ marks bit l (omega arith)
  | inr past ↦
      let is : nat_lt (block * 64 + bit) size ≡ false = le-ltb (block * 64 + bit) size past in
      ap (λ x. (bit_at word bit == 1) && x) (lows bit l ∙ is) ∙ right_false (bit_at word bit == 1) ∙ sym (get_or_past row (block * 64 + bit) false (omega arith))
]
  where
    right_true : (x : Bool) → (x && true) ≡ x
    right_true true = refl
    right_true false = refl

    right_false : (x : Bool) → (x && false) ≡ false
    right_false true = refl
    right_false false = refl

-- a block whose bits are 0 has no mark
pub none_of_bits : (row : List Bool) (block bits : ℕ) → bits ≡ 0 → ((bit : ℕ) → bit < 64 → (bit_at bits bit == 1) ≡ get_or row (block * 64 + bit) false) → NoneBetween row (block * 64) ((block + 1) * 64)
none_of_bits row block bits none marks k after before within =
    let at : block * 64 + (k - block * 64) ≡ k = omega arith in
    let off : bit_at bits (k - block * 64) ≡ 0 = ap (λ n. bit_at n (k - block * 64)) none ∙ bit_at-zero (k - block * 64) in
    sym (ap (λ n. get_or row n false) at) ∙ sym (marks (k - block * 64) (omega arith)) ∙ ap (λ b. b == 1) off

-- and one whose bits are not has one
pub some_of_bits : (row : List Bool) (block bits : ℕ) → bits ≢ 0 → bits < 2 ^ 64 → ((bit : ℕ) → bit < 64 → (bit_at bits bit == 1) ≡ get_or row (block * 64 + bit) false) → HasMarkIn row block
some_of_bits row block bits some fits marks =
    let lowest = bit_at-trailing_zeros w64 bits (omega (arith, some)) fits in
    (trailing_zeros w64 bits, lowest.0, sym (marks (trailing_zeros w64 bits) lowest.0) ∙ ap (λ b. b == 1) lowest.1)

pub bits_of_some : (row : List Bool) (block bits : ℕ) → HasMarkIn row block → ((bit : ℕ) → bit < 64 → (bit_at bits bit == 1) ≡ get_or row (block * 64 + bit) false) → bits ≢ 0
bits_of_some row block bits has marks none =
    let off : (bit_at bits has.0 == 1) ≡ false = ap (λ n. bit_at n has.0 == 1) none ∙ ap (λ b. b == 1) (bit_at-zero has.0) in
    let wrong : false ≡ true = sym off ∙ marks has.0 has.1 ∙ has.2 in
    absurd cc
