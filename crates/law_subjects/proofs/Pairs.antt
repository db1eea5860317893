-- The pairs and nodes that generators go over.
use Rattle.std.proofs.Common.{ℕ, ◌+◌, ◌-◌, ◌*◌, ◌<◌, ◌≤◌, flat_map, length, arith}
use Rattle.std.specs.List.{range_with_len, AllByRecursion}
use Rattle.std.proofs.lemmas.List.FromFn.{length-range_with_len, length-map-range_with_len}
use Rattle.dcsp_gen.specs.Problems.{pairs, pairs_of, thrice}
use Rattle.law_subjects.proofs.Lists.{all_map, all_flat_map, all_range, few_in_all}

-- two different numbers from 1 to n, the lesser first
abbrev pub IsPair : ℕ → ℕ × ℕ → Type 0
IsPair n pair = (1 ≤ pair.0) × (pair.0 < pair.1) × (pair.1 ≤ n)

pub are_pairs : (n : ℕ) → AllByRecursion (IsPair n) (pairs n)
are_pairs n =
    all_flat_map (IsPair n) (pairs_of n) (range_with_len 1 n) (
    all_range (λ first. AllByRecursion (IsPair n) (pairs_of n first)) 1 n (λ first l r.
    all_map (IsPair n) (λ second. (first, second)) (range_with_len (first + 1) (n - first)) (
    all_range (λ second. IsPair n (first, second)) (first + 1) (n - first) (λ second m s. (l, omega (arith, m), omega (arith, r, s))))))

pub few_pairs : (n : ℕ) → length (pairs n) ≤ n * n
few_pairs n =
    let each : AllByRecursion (λ first. length (pairs_of n first) ≤ n) (range_with_len 1 n) =
    all_range (λ first. length (pairs_of n first) ≤ n) 1 n (λ first l r. let long = length-map-range_with_len {X = ℕ × ℕ} (λ second. (first, second)) (first + 1) (n - first) in omega (arith, long)) in
    let all = few_in_all (pairs_of n) n (range_with_len 1 n) each in
    let count = length-range_with_len 1 n in
    rw count at all

-- a node that has a node before it
abbrev pub IsLater : ℕ → ℕ → Type 0
IsLater n node = (2 ≤ node) × (node ≤ n)

pub are_later : (n : ℕ) → AllByRecursion (IsLater n) (flat_map thrice (range_with_len 2 (n - 1)))
are_later n =
    all_flat_map (IsLater n) thrice (range_with_len 2 (n - 1)) (
    all_range (λ node. AllByRecursion (IsLater n) (thrice node)) 2 (n - 1) (λ node l r. let h : IsLater n node = (l, omega (arith, r)) in (h, (h, (h, tt)))))
