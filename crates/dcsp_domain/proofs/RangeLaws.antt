-- The numbers from one to another.
use Rattle.std.proofs.Common.{◌≡◌, ℕ, zero, suc, ◌<◌, true, [], ◌∷◌, ◌++◌, length, get_or, refl, sym, ap, ◌∙◌, arith, rules, inl, inr, ◌⊎◌}
use Rattle.std.specs.Prelude.{ℤ, pos, negsuc, ◌+ℤ◌, ◌-ℤ◌, ◌<ℤ◌, ◌≤ℤ◌, ◌↔◌, Contains}
use Rattle.std.proofs.lemmas.Int.{ints}
use Rattle.std.proofs.lemmas.List.{length_push, get_or_append_left}
use Rattle.std.proofs.Math.Seq.{get_or-append_seam}
use Rattle.dcsp_domain.specs.Sets.{IsRising, has}
use Rattle.dcsp_domain.specs.Ranges.{at_least_zero, count_between, numbers_from, numbers_between}
use Rattle.dcsp_domain.proofs.Rising.{has_decides}

pub length-numbers_from : (low : ℤ) (n : ℕ) → length (numbers_from low n) ≡ n
length-numbers_from low zero = refl
length-numbers_from low (suc n) = length_push (numbers_from low n) (low +ℤ pos n) ∙ (let e = length-numbers_from low n in omega arith)

-- the number at a place
pub number_at_place : (low : ℤ) (n k : ℕ) (d : ℤ) → k < n → get_or (numbers_from low n) k d ≡ low +ℤ pos k
number_at_place low zero k d l = absurd (omega arith)
number_at_place low (suc n) k d l =
    let size = length-numbers_from low n in
    let split : (k < n) ⊎ (k ≡ n) = search rules in
    elim split [
      | inl before ↦ get_or_append_left (numbers_from low n) ((low +ℤ pos n) ∷ []) d k (omega arith) ∙ number_at_place low n k d before
      | inr here ↦
          let at : get_or (numbers_from low n ++ (low +ℤ pos n) ∷ []) (length (numbers_from low n)) d ≡ low +ℤ pos n = get_or-append_seam (numbers_from low n) (low +ℤ pos n) [] d in
          let place : k ≡ length (numbers_from low n) = here ∙ sym size in
          ap (λ z. get_or (numbers_from low (suc n)) z d) place ∙ at ∙ ap (λ z. low +ℤ pos z) (sym here)
    ]

pub rising-numbers_from : (low : ℤ) (n : ℕ) → IsRising (numbers_from low n)
rising-numbers_from low n = λ i j d l h.
    let size = length-numbers_from low n in
    let first = number_at_place low n i d (omega arith) in
    let second = number_at_place low n j d (omega arith) in
    rw (first, second) (omega (arith, ints))

-- what the numbers from low on are
numbers_from_has : (low v : ℤ) (n : ℕ) → has (numbers_from low n) v ≡ true → (low ≤ℤ v) × (v <ℤ (low +ℤ pos n))
numbers_from_has low v n h =
    let c : Contains (numbers_from low n) v = (has_decides (numbers_from low n) v).0 h in
    let size = length-numbers_from low n in
    let in_range : c.0 < n = omega (arith, c.1) in
    let at = number_at_place low n c.0 v in_range in
    let is : v ≡ low +ℤ pos c.0 = sym c.2 ∙ at in
    (omega (arith, ints), omega (arith, ints))

-- the place of a number
gap_of : (low v : ℤ) → low ≤ℤ v → (k : ℕ) × (v ≡ low +ℤ pos k)
gap_of low v h = (at_least_zero (v -ℤ low), is (v -ℤ low) refl) where
  is : (z : ℤ) → v -ℤ low ≡ z → v ≡ low +ℤ pos (at_least_zero z)
  is (pos n) e = omega (arith, ints)
  is (negsuc n) e = absurd (omega (arith, ints))

has_numbers_from : (low v : ℤ) (n : ℕ) → low ≤ℤ v → v <ℤ (low +ℤ pos n) → has (numbers_from low n) v ≡ true
has_numbers_from low v n from to =
    let gap = gap_of low v from in
    let is : v ≡ low +ℤ pos gap.0 = gap.1 in
    let in_range : gap.0 < n = omega (arith, ints) in
    let size = length-numbers_from low n in
    (has_decides (numbers_from low n) v).1 (gap.0, omega arith, number_at_place low n gap.0 v in_range ∙ sym is)

-- the end of the numbers from low to high
pub count_reaches : (low high v : ℤ) → low ≤ℤ v → (v <ℤ (low +ℤ pos (count_between low high))) ↔ (v ≤ℤ high)
count_reaches low high v from = by_sign ((high -ℤ low) +ℤ pos 1) refl where
  by_sign : (z : ℤ) → (high -ℤ low) +ℤ pos 1 ≡ z → (v <ℤ (low +ℤ pos (at_least_zero z))) ↔ (v ≤ℤ high)
  by_sign (pos n) e = (λ h. omega (arith, ints), λ h. omega (arith, ints))
  by_sign (negsuc n) e = (λ h. absurd (omega (arith, ints)), λ h. absurd (omega (arith, ints)))

pub numbers_between_has : (low high v : ℤ) → (has (numbers_between low high) v ≡ true) ↔ ((low ≤ℤ v) × (v ≤ℤ high))
numbers_between_has low high v = (
  λ h.
      let here = numbers_from_has low v (count_between low high) h in
      (here.0, (count_reaches low high v here.0).0 here.1),
  λ h. has_numbers_from low v (count_between low high) h.0 ((count_reaches low high v h.0).1 h.1),
)
