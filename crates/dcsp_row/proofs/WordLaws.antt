-- Words of blocks, and the places that their bits stand for.
use Rattle.std.proofs.Common.{◌≡◌, ◌≢◌, ◌&&◌, ℕ, min, ◌+◌, ◌-◌, ◌*◌, ◌/◌, ◌%◌, ◌^◌, ◌<◌, ◌≤◌, ◌==◌, Bool, not, List, length, get_or, set, sym, ap, ◌∙◌, arith, inl, inr, w64, Option, Some, None, IfSome}
use Rattle.std.specs.Int.{bit_at, bit_not}
use Rattle.std.specs.Int.RustNames.{bit_and}
use Rattle.std.proofs.lemmas.Bool.{cases_eq}
use Rattle.std.proofs.lemmas.Bool.Decides.{nat_tests}
use Rattle.std.proofs.lemmas.List.{get_or-set_same, get_or-set_other}
use Rattle.std.proofs.lemmas.Nat.Bits.{bit_at_and, bit_at-lt, bit_at_not}
use Rattle.dcsp_row.specs.Bits.{has_bit}

-- the bits of the other side
pub other_bit : (n bit : ℕ) → n < 2 ^ 64 → bit < 64 → (bit_at (bit_not w64 n) bit == 1) ≡ not (bit_at n bit == 1)
other_bit n bit fits l = ap (λ b. b == 1) (bit_at_not w64 n bit fits l) ∙ by_bit (bit_at n bit) (bit_at-lt n bit) where
  by_bit : (b : ℕ) → b < 2 → ((1 - b) == 1) ≡ not (b == 1)
  by_bit b m = elim (cases_eq b 0) [
    | inl zero ↦ ap (λ x. (1 - x) == 1) zero ∙ sym (ap (λ x. not (x == 1)) zero)
    | inr ne ↦ let one : b ≡ 1 = omega (arith, m, ne) in ap (λ x. (1 - x) == 1) one ∙ sym (ap (λ x. not (x == 1)) one)
  ]

-- the bits that two words share
pub shared_bit : (a b bit : ℕ) → (bit_at (bit_and a b) bit == 1) ≡ ((bit_at a bit == 1) && (bit_at b bit == 1))
shared_bit a b bit = ap (λ n. n == 1) (bit_at_and a b bit) ∙ by_bits (bit_at a bit) (bit_at b bit) (bit_at-lt a bit) (bit_at-lt b bit) where
  by_bits : (x y : ℕ) → x < 2 → y < 2 → (min x y == 1) ≡ ((x == 1) && (y == 1))
  by_bits x y l m = elim (cases_eq x 0) [
    | inl zero ↦ let least : min x y ≡ 0 = omega (arith, zero) in ap (λ n. n == 1) least ∙ sym (ap (λ n. (n == 1) && (y == 1)) zero)
    | inr some ↦
        let one : x ≡ 1 = omega (arith, l, some) in
        let least : min x y ≡ y = omega (arith, one, m) in
        ap (λ n. n == 1) least ∙ sym (ap (λ n. (n == 1) && (y == 1)) one)
  ]

-- one block more has its bits
pub block_more : (words : List ℕ) (block word : ℕ) (test : ℕ → Bool) → block < length words → ((bit : ℕ) → bit < 64 → (bit_at word bit == 1) ≡ test (block * 64 + bit))
    → ((j : ℕ) → j / 64 < block → has_bit words j ≡ test j) → (k : ℕ) → k / 64 < block + 1 → has_bit (set words block word) k ≡ test k
block_more words block word test inside bits before k l = elim (cases_eq (k / 64) block) [
  | inl at ↦
      let all : block * 64 + k % 64 ≡ k = omega (arith, at) in
      ap (λ n. bit_at (get_or (set words block word) n 0) (k % 64) == 1) at ∙ ap (λ w. bit_at w (k % 64) == 1) (get_or-set_same words block word 0 inside)
      ∙ bits (k % 64) (omega arith) ∙ ap test all
  | inr other ↦ ap (λ w. bit_at w (k % 64) == 1) (get_or-set_other words block (k / 64) word 0 other) ∙ before k (omega (arith, l, other))
]

-- two tests agree in a block up to a bit where the bits of its words do
pub same_in_block : (test other : ℕ → Bool) (size block mine theirs first stop from : ℕ) → ((bit : ℕ) → bit < 64 → block * 64 + bit < size → (bit_at mine bit == 1) ≡ test (block * 64 + bit))
    → ((bit : ℕ) → bit < 64 → block * 64 + bit < size → (bit_at theirs bit == 1) ≡ other (block * 64 + bit)) → ((bit : ℕ) → first ≤ bit → bit < stop → bit_at mine bit ≡ bit_at theirs bit)
    → ((bit : ℕ) → from ≤ block * 64 + bit → first ≤ bit) → (k : ℕ) → from ≤ k → k < size → k / 64 ≡ block → k % 64 < stop → test k ≡ other k
same_in_block test other size block mine theirs first stop from e f same skipped k l within at below =
    let all : block * 64 + k % 64 ≡ k = omega (arith, at) in
    let after : from ≤ block * 64 + k % 64 = omega (arith, l, all) in
    let inside : block * 64 + k % 64 < size = omega (arith, within, all) in
    let low : k % 64 < 64 = omega arith in
    sym (ap test all) ∙ sym (e (k % 64) low inside) ∙ ap (λ b. b == 1) (same (k % 64) (skipped (k % 64) after) below) ∙ f (k % 64) low inside ∙ ap other all

-- the place that was found is not before the one from which it was looked for
pub found_after : (result : Option ℕ) (at size from all : ℕ) → from ≤ at → size ≡ all → IfSome result (λ place. (place ≡ at) × (place < size)) → IfSome result (λ place. (from ≤ place) × (place < all))
found_after None at size from all l e h = h
found_after (Some place) at size from all l e h = (omega (arith, h.0, l), omega (arith, h.1, e))

same_ones : (x y : ℕ) → x < 2 → y < 2 → (x == 1) ≡ (y == 1) → x ≡ y
same_ones x y l m e = grind (arith, nat_tests)

-- two tests differ at the place that was found, where the bits of their words do
pub differs_there : (test other : ℕ → Bool) (result : Option ℕ) (at size mine theirs bit : ℕ) → (at < size → (bit_at mine bit == 1) ≡ test at) → (at < size → (bit_at theirs bit == 1) ≡ other at)
    → bit_at mine bit ≢ bit_at theirs bit → IfSome result (λ place. (place ≡ at) × (place < size)) → IfSome result (λ place. test place ≢ other place)
differs_there test other None at size mine theirs bit e f apart h = h
differs_there test other (Some place) at size mine theirs bit e f apart h = λ same.
    let inside : at < size = omega (arith, h.0, h.1) in
    apart (same_ones (bit_at mine bit) (bit_at theirs bit) (bit_at-lt mine bit) (bit_at-lt theirs bit) (e inside ∙ sym (ap test h.0) ∙ same ∙ ap other h.0 ∙ sym (f inside)))
