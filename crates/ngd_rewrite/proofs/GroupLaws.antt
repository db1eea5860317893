-- The groups of steps by where they end.
use Rattle.std.proofs.Common.{◌≡◌, ℕ, ◌+◌, ◌-◌, ◌<◌, ◌≤◌, Bool, cond, eqb, List, [], ◌∷◌, length, get_or, inl, inr, refl, ap, ◌∙◌, arith}
use Rattle.std.specs.List.{filter}
use Rattle.dcsp_defs.specs.declared.Step.{Step}
use Rattle.dcsp_defs.specs.Words.{In}
use Rattle.ngd_rewrite.specs.Upgrade.{end_of, numbers, ending}
use Rattle.ngd_rewrite.specs.Endings.{AreEnds}
use Rattle.ngd_rewrite.proofs.Numbers.{in_numbers}
use Rattle.ngd_rewrite.proofs.EndLaws.{end_after, end_most}

-- where steps end is from 1 to their number
pub within_ends : (ends : List ℕ) (steps : List Step) → AreEnds steps ends → (i : ℕ) → i < length ends → (0 < get_or ends i 0) × (get_or ends i 0 ≤ length ends)
within_ends ends steps are i lt =
    let count = are.count in
    let within : i < length steps = omega (arith, lt, count) in
    let is = are.each i within in
    let low = end_after steps (i + 1) in
    let high = end_most steps (i + 1) (omega (arith, within)) in
    (omega (arith, is, low), omega (arith, is, high, count))

-- a test that is the same on the numbers picks the same
same_picked : (p q : ℕ → Bool) (xs : List ℕ) → ((x : ℕ) → In x xs → p x ≡ q x) → filter p xs ≡ filter q xs
same_picked p q [] h = refl
same_picked p q (x ∷ xs) h =
    ap (λ (b : Bool). cond b (x ∷ filter p xs) (filter p xs)) (h x (inl refl)) ∙ ap (λ (ys : List ℕ). cond (q x) (x ∷ ys) ys) (same_picked p q xs (λ y i. h y (inr i)))

-- a group holds the steps that end there
pub group_is : (ends : List ℕ) (steps : List Step) (k : ℕ) → AreEnds steps ends → filter (λ number. eqb (get_or ends (number - 1) 0) (k + 1)) (numbers (length ends)) ≡ ending steps (k + 1)
group_is ends steps k are =
    ap (λ (n : ℕ). filter (λ number. eqb (get_or ends (number - 1) 0) (k + 1)) (numbers n)) are.count
    ∙ same_picked (λ number. eqb (get_or ends (number - 1) 0) (k + 1)) (λ number. eqb (end_of steps number) (k + 1)) (numbers (length steps)) (λ x i.
    let h = in_numbers (length steps) x i in
    let low = h.0 in
    let high = h.1 in
    let back : x - 1 + 1 ≡ x = omega (arith, low) in
    ap (λ (n : ℕ). eqb n (k + 1)) (are.each (x - 1) (omega (arith, low, high)) ∙ ap (end_of steps) back))
