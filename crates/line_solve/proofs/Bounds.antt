-- A problem with smaller domains has no greater bound.
use Rattle.std.proofs.Common.{◌≡◌, ℕ, zero, suc, ◌+◌, ◌-◌, ◌*◌, ◌≤◌, cond, ℤ, List, [], length, ap, arith}
use Rattle.std.specs.Prelude.{slice_index_or}
use Rattle.std.proofs.lemmas.Nat.{mul-le}
use Rattle.dcsp_defs.specs.Words.{sum_below}
use Rattle.dcsp_defs.specs.Csp.{Csp, Constraint, domain}
use Rattle.abt_defs.specs.Agents.{shares}
use Rattle.abt_defs.specs.Bound.{product_below, unlinked_pairs, message_bound}
use Rattle.law_runs.proofs.Sums.{sum-le}

-- no domain is longer than it was
pub record AreNoLonger (new old : List (List ℤ)) : Type 0 where
  pub count : length new ≡ length old
  pub each : (i : ℕ) → length (slice_index_or new i []) ≤ length (slice_index_or old i [])

-- the problem with these domains
abbrev with_domains : List Constraint → List (List ℤ) → Csp
with_domains rules domains = record { domains = domains; constraints = rules }

-- what variable i adds to the bound
abbrev share_of : Csp → ℕ → ℕ → ℕ
share_of p n i = (n - 1 - i) * length (domain p i) * product_below p i + (product_below p i - 1)

module _ (rules : List Constraint) (new old : List (List ℤ)) (h : AreNoLonger new old) where
  product_smaller : (i : ℕ) → product_below (with_domains rules new) i ≤ product_below (with_domains rules old) i
  product_smaller zero = omega arith
  product_smaller (suc i) =
      let one : 1 + length (slice_index_or new i []) ≤ 1 + length (slice_index_or old i []) = let l = h.each i in omega arith in
      mul-le _ _ _ _ (product_smaller i) one

  share_smaller : (n i : ℕ) → share_of (with_domains rules new) n i ≤ share_of (with_domains rules old) n i
  share_smaller n i =
      let product = product_smaller i in
      let same : n - 1 - i ≤ n - 1 - i = omega arith in
      let first = mul-le (n - 1 - i) (length (slice_index_or new i [])) (n - 1 - i) (length (slice_index_or old i [])) same (h.each i) in
      let all = mul-le _ _ _ _ first product in
      omega arith

  pub bound_smaller : message_bound (with_domains rules new) ≤ message_bound (with_domains rules old)
  bound_smaller =
      let sums = sum-le (share_of (with_domains rules new) (length new)) (share_of (with_domains rules old) (length new)) (length new) (λ i l. share_smaller (length new) i) in
      let same = h.count in
      let pairs : unlinked_pairs (with_domains rules new) ≡ unlinked_pairs (with_domains rules old) = ap (λ (n : ℕ). sum_below (λ i. sum_below (λ k. cond (shares (with_domains rules new) i k) 0 1) i) n) same in
      let turned = ap (λ (n : ℕ). sum_below (share_of (with_domains rules old) n) n) same in
      omega arith
