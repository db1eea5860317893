-- Bits at which two words differ, and words with the lowest bits set.
use Rattle.std.proofs.Common.{◌≡◌, ◌≢◌, ℕ, ◌+◌, ◌-◌, ◌*◌, ◌/◌, ◌%◌, ◌^◌, ◌<◌, ◌≤◌, ◌==◌, nat_lt, sym, ap, ◌∙◌, arith, rules, inl, inr, w64}
use Rattle.std.specs.Int.{bit_at, trailing_zeros}
use Rattle.std.specs.Int.RustNames.{bit_xor}
use Rattle.std.proofs.lemmas.Bool.{cases_lt}
use Rattle.std.proofs.lemmas.Bool.Decides.{nat_tests}
use Rattle.std.proofs.lemmas.Nat.{shr_split, mod_below, xor_lt}
use Rattle.std.proofs.Math.Nat.{div-le_self}
use Rattle.std.proofs.lemmas.Nat.Bits.{bit_at_xor, bit_at-lt, bit_at-zero, bit_at-trailing_zeros, bit_at_cat_high, bit_at_above, bit_at_ones, bit_at_ones_above}

some_power : (k : ℕ) → 0 < 2 ^ k
some_power k = search rules

-- a bit of what is shifted down
shifted : (n k i : ℕ) → k ≤ i → bit_at n i ≡ bit_at (n / 2 ^ k) (i - k)
shifted n k i l = ap (λ m. bit_at m i) (sym (shr_split n k)) ∙ bit_at_cat_high (n / 2 ^ k) k (n % 2 ^ k) i (mod_below n (2 ^ k) (some_power k)) l

even_sum : (a b : ℕ) → a < 2 → b < 2 → (a + b) % 2 ≡ 0 → a ≡ b
even_sum a b l m e = omega (arith, l, m, e)

-- no bit of the difference, the same bits
pub same_bit : (a b i : ℕ) → bit_at (bit_xor a b) i ≡ 0 → bit_at a i ≡ bit_at b i
same_bit a b i none = even_sum (bit_at a i) (bit_at b i) (bit_at-lt a i) (bit_at-lt b i) (sym (bit_at_xor a b i) ∙ none)

-- where nothing of the difference is left, the bits are the same from there on
pub none_left : (a b k i : ℕ) → bit_xor a b / 2 ^ k ≡ 0 → k ≤ i → bit_at a i ≡ bit_at b i
none_left a b k i none l = same_bit a b i (shifted (bit_xor a b) k i l ∙ ap (λ n. bit_at n (i - k)) none ∙ bit_at-zero (i - k))

-- and else up to the lowest bit that is left
pub left_from : (a b k rest low_zeros i : ℕ) → rest ≡ bit_xor a b / 2 ^ k → low_zeros ≡ trailing_zeros w64 rest → 0 < rest → rest < 2 ^ 64 → k ≤ i → i < k + low_zeros → bit_at a i ≡ bit_at b i
left_from a b k rest low_zeros i e f some fits l m =
    let below = (bit_at-trailing_zeros w64 rest some fits).2 (i - k) (omega (arith, l, m, f)) in
    same_bit a b i (shifted (bit_xor a b) k i l ∙ ap (λ n. bit_at n (i - k)) (sym e) ∙ below)

-- that bit is set
lowest_left : (n k rest low_zeros : ℕ) → rest ≡ n / 2 ^ k → low_zeros ≡ trailing_zeros w64 rest → 0 < rest → rest < 2 ^ 64 → bit_at n (k + low_zeros) ≡ 1
lowest_left n k rest low_zeros e f some fits =
    let here : k + low_zeros - k ≡ trailing_zeros w64 rest = omega (arith, f) in
    shifted n k (k + low_zeros) (omega arith) ∙ ap (bit_at (n / 2 ^ k)) here ∙ ap (λ m. bit_at m (trailing_zeros w64 rest)) (sym e) ∙ (bit_at-trailing_zeros w64 rest some fits).1

-- it is one of the word
pub bit_left : (n k rest low_zeros : ℕ) → rest ≡ n / 2 ^ k → low_zeros ≡ trailing_zeros w64 rest → 0 < rest → rest < 2 ^ 64 → n < 2 ^ 64 → k + low_zeros < 64
bit_left n k rest low_zeros e f some fits small = elim (cases_lt (k + low_zeros) 64) [
  | inl within ↦ within
  | inr past ↦ absurd (omega (arith, lowest_left n k rest low_zeros e f some fits, bit_at_above n 64 (k + low_zeros) small past))
]

odd_sum : (a b : ℕ) → (a + b) % 2 ≡ 1 → a ≢ b
odd_sum a b e same = omega (arith, e, same)

-- and the words differ there
pub left_differs : (a b k rest low_zeros : ℕ) → rest ≡ bit_xor a b / 2 ^ k → low_zeros ≡ trailing_zeros w64 rest → 0 < rest → rest < 2 ^ 64 → bit_at a (k + low_zeros) ≢ bit_at b (k + low_zeros)
left_differs a b k rest low_zeros e f some fits =
    odd_sum (bit_at a (k + low_zeros)) (bit_at b (k + low_zeros)) (sym (bit_at_xor a b (k + low_zeros)) ∙ lowest_left (bit_xor a b) k rest low_zeros e f some fits)

-- words in which the bits of the places below one are set
pub all_low : (block bit place : ℕ) → bit < 64 → block < place / 64 → (bit_at (2 ^ 64 - 1) bit == 1) ≡ nat_lt (block * 64 + bit) place
all_low block bit place l before =
    let below : block * 64 + bit < place = omega (arith, l, before) in
    ap (λ b. b == 1) (bit_at_ones 64 bit l) ∙ grind (arith, nat_tests)

pub some_low : (block bit place : ℕ) → bit < 64 → block ≡ place / 64 → (bit_at (2 ^ (place % 64) - 1) bit == 1) ≡ nat_lt (block * 64 + bit) place
some_low block bit place l at = elim (cases_lt bit (place % 64)) [
  | inl below ↦ let within : block * 64 + bit < place = omega (arith, at, below) in ap (λ b. b == 1) (bit_at_ones (place % 64) bit below) ∙ grind (arith, nat_tests)
  | inr past ↦ let outside : place ≤ block * 64 + bit = omega (arith, at, past) in ap (λ b. b == 1) (bit_at_ones_above (place % 64) bit past) ∙ grind (arith, nat_tests)
]

pub none_low : (block bit place : ℕ) → place / 64 < block → (bit_at 0 bit == 1) ≡ nat_lt (block * 64 + bit) place
none_low block bit place past =
    let outside : place ≤ block * 64 + bit = omega (arith, past) in
    ap (λ b. b == 1) (bit_at-zero bit) ∙ grind (arith, nat_tests)

-- what is left of a difference is one word
pub rest_fits : (a b k : ℕ) → a < 2 ^ 64 → b < 2 ^ 64 → bit_xor a b / 2 ^ k < 2 ^ 64
rest_fits a b k l m = let all = xor_lt 64 a b l m in let less = div-le_self (bit_xor a b) (2 ^ k) in omega (arith, all, less)
