-- Selection in order chooses exactly as many as are wanted.
use Rattle.std.proofs.Common.{◌≡◌, ℕ, zero, suc, ◌+◌, ◌-◌, ◌*◌, ◌%◌, ◌≤◌, ◌<◌, Bool, true, false, not, List, [], ◌∷◌, ◌++◌, flat_map, length, refl, ap, ◌∙◌, arith, length-append}
use Rattle.std.specs.Prelude.{if◌then◌else◌}
use Rattle.std.specs.List.{range_with_len}
use Rattle.std.proofs.lemmas.Bool.{ltb-true, ltb-false}
use Rattle.std.proofs.lemmas.List.{length-map}
use Rattle.std.proofs.lemmas.Nat.{mod_below}
use Rattle.std.proofs.Math.Nat.{mul-add, mul_comm}
use Rattle.dcsp_gen.specs.Problems.{pairs, pairs_of}
use Rattle.dcsp_gen.specs.Selection.{chooses, selected, wanted_after}
use Rattle.dcsp_gen.specs.Binary.{value_pairs, values_with}
use Rattle.dcsp_gen.proofs.Selecting.{length_range, once_more}
use Rattle.dcsp_gen.specs.Chosen.{IsDealt, nothing, to_first, to_second, IsExact}

-- what is still wanted after a thing is not more than what is left
still_enough : (word wanted left : ℕ) (b : Bool) → chooses word wanted (suc left) ≡ b → wanted ≤ suc left → wanted_after b wanted ≤ left
still_enough word wanted left true e l =
    let below : word % suc left < wanted = ltb-true (word % suc left) wanted e in
    omega (arith, below)
still_enough word wanted left false e l =
    let above : wanted ≤ word % suc left = ltb-false (word % suc left) wanted e in
    let small : word % suc left < suc left = mod_below word (suc left) (omega arith) in
    omega (arith, above, small)

-- a thing that is chosen was wanted
wanted_some : (word wanted left : ℕ) → chooses word wanted left ≡ true → 1 ≤ wanted
wanted_some word wanted left e =
    let below : word % left < wanted = ltb-true (word % left) wanted e in
    omega (arith, below)

-- what is chosen or left of a thing and those behind it, where its word chooses it or not
abbrev picked : {X : Type 0} → (kept b : Bool) (words : ℕ → ℕ) (wanted : ℕ) (x : X) (xs : List X) → List X
picked kept b words wanted x xs =
    let rest = selected kept (λ k. words (suc k)) (wanted_after b wanted) xs in if (if kept then b else not b) then x ∷ rest else rest

abbrev IsExactBy : {X : Type 0} → (words : ℕ → ℕ) (wanted : ℕ) (x : X) (xs : List X) → Bool → Type 0
IsExactBy words wanted x xs b =
    IsDealt (picked true b words wanted x xs) (picked false b words wanted x xs) (x ∷ xs)
    × (length (picked true b words wanted x xs) ≡ wanted)
    × (length (picked false b words wanted x xs) ≡ suc (length xs) - wanted)

exact_by : {X : Type 0} (words : ℕ → ℕ) (wanted : ℕ) (x : X) (xs : List X) (b : Bool) → chooses (words 0) wanted (suc (length xs)) ≡ b
    → wanted_after b wanted ≤ length xs → IsExact (λ k. words (suc k)) (wanted_after b wanted) xs → IsExactBy words wanted x xs b
exact_by words wanted x xs true e l rest =
    let some = wanted_some (words 0) wanted (suc (length xs)) e in
    let many : length (selected true (λ k. words (suc k)) (wanted - 1) xs) ≡ wanted - 1 = rest.many in
    let others : length (selected false (λ k. words (suc k)) (wanted - 1) xs) ≡ length xs - (wanted - 1) = rest.others in
    (to_first rest.dealt, omega (arith, some, many), omega (arith, some, others))
exact_by words wanted x xs false e l rest =
    let small : wanted ≤ length xs = l in
    let others : length (selected false (λ k. words (suc k)) wanted xs) ≡ length xs - wanted = rest.others in
    (to_second rest.dealt, rest.many, omega (arith, small, others))

pub exact : {X : Type 0} (words : ℕ → ℕ) (wanted : ℕ) (things : List X) → wanted ≤ length things → IsExact words wanted things
exact words wanted [] l = record { dealt = nothing; many = omega (arith, l); others = omega (arith, l) }
exact words wanted (x ∷ xs) l =
    let b = chooses (words 0) wanted (suc (length xs)) in
    let enough = still_enough (words 0) wanted (length xs) b refl l in
    let made = exact_by words wanted x xs b refl enough (exact (λ k. words (suc k)) (wanted_after b wanted) xs enough) in
    record { dealt = made.0; many = made.1; others = made.2 }

-- ---- how many pairs there are

twice_more : (c : ℕ) → suc (suc c) * suc c ≡ 2 * suc c + suc c * c
twice_more c =
    let turned = mul_comm (suc (suc c)) (suc c) in
    let two : suc (suc c) ≡ c + 2 = omega arith in
    let parts = ap (λ m. suc c * m) two ∙ mul-add (suc c) c 2 in
    let other = mul_comm (suc c) 2 in
    omega (arith, turned, parts, other)

-- as many pairs as there are later numbers, for each number from one on
pairs_from : (n low count : ℕ) → low + count ≡ suc n → 2 * length (flat_map (pairs_of n) (range_with_len low count)) ≡ count * (count - 1)
pairs_from n low zero e = omega arith
pairs_from n low (suc count) e = by count refl (pairs_from n (low + 1) count (omega (arith, e)))
  where
    others : List (ℕ × ℕ)
    others = flat_map (pairs_of n) (range_with_len (low + 1) count)

    here : length (pairs_of n low) ≡ count
    here = length-map (range_with_len (low + 1) (n - low)) (λ second. (low, second)) ∙ length_range (low + 1) (n - low) ∙ omega (arith, e)

    both : length (pairs_of n low ++ others) ≡ length (pairs_of n low) + length others
    both = length-append (pairs_of n low) others

    by : (m : ℕ) → count ≡ m → 2 * length others ≡ count * (count - 1) → 2 * length (pairs_of n low ++ others) ≡ suc count * (suc count - 1)
    by zero z rest =
        let none : count * (count - 1) ≡ 0 = ap (λ k. k * (k - 1)) z in
        let all : suc count * (suc count - 1) ≡ 0 = ap (λ k. suc k * (suc k - 1)) z in
        let first = here in
        let sum = both in
        omega (arith, first, sum, rest, none, all, z)
    by (suc c) z rest =
        let one_less : suc c - 1 ≡ c = omega arith in
        let one_off : suc (suc c) - 1 ≡ suc c = omega arith in
        let less : count * (count - 1) ≡ suc c * c = ap (λ k. k * (k - 1)) z ∙ ap (λ k. suc c * k) one_less in
        let all : suc count * (suc count - 1) ≡ suc (suc c) * suc c = ap (λ k. suc k * (suc k - 1)) z ∙ ap (λ k. suc (suc c) * k) one_off in
        let more = twice_more c in
        let first = here in
        let sum = both in
        omega (arith, first, sum, rest, less, all, more, z)

pub many_variables : (n : ℕ) → 2 * length (pairs n) ≡ n * (n - 1)
many_variables n = pairs_from n 1 n (omega arith)

values_from : (d low count : ℕ) → length (flat_map (values_with d) (range_with_len low count)) ≡ count * d
values_from d low zero = omega arith
values_from d low (suc count) =
    let here : length (values_with d low) ≡ d = length-map (range_with_len 0 d) (λ second. (low, second)) ∙ length_range 0 d in
    let rest = values_from d (low + 1) count in
    let both = length-append (values_with d low) (flat_map (values_with d) (range_with_len (low + 1) count)) in
    let more = once_more count d in
    omega (arith, here, rest, both, more)

pub many_values : (d : ℕ) → length (value_pairs d) ≡ d * d
many_values d = values_from d 0 d
