-- While a message is in transit, the bound is not reached.
use Rattle.std.proofs.Common.{◌≡◌, ℕ, ◌<◌, true, false, not, inl, List, [], ◌∷◌, length, refl, sym, subst, arith, find}
use Rattle.std.specs.List.{enumerate_from}
use Rattle.dcsp_defs.specs.Words.{In, below}
use Rattle.dcsp_defs.specs.Csp.{Csp, count}
use Rattle.dcsp_defs.proofs.Lists.{In-below, filter-from}
use Rattle.abt_defs.specs.Network.{Network, ready, pairs, is_empty, run, start}
use Rattle.abt_defs.specs.Bound.{message_bound}
use Rattle.law_agent.proofs.Runs.{In-pairs}
use Rattle.law_runs.specs.Bounded.{UnfinishedBelow}
use Rattle.law_runs.proofs.Total.{within}
use Rattle.law_runs.proofs.BoundRuns.{Goes, goes_run, goes_start}

-- where something is in transit, the bound is not reached
pub below_bound : (p : Csp) (net : Network) → Goes p net → net.refuted ≡ false → is_empty (ready p net) ≡ false → net.deliveries < message_bound p
below_bound p net c f t = by_list (ready p net) refl t
  where
    longer : {X : Type 0} → (xs : List X) → not (is_empty xs) ≡ true → 0 < length xs
    longer [] h = cc
    longer (x ∷ xs) h = omega arith

    by_list : (xs : List (ℕ × ℕ)) → ready p net ≡ xs → is_empty xs ≡ false → net.deliveries < message_bound p
    by_list [] e g = cc
    by_list (x ∷ xs) e g =
        let u : In x (ready p net) = subst (In x) (sym e) (inl refl) in
        let a = In-pairs (count p) x (below (count p)) (filter-from (λ (x : ℕ × ℕ). not (is_empty (net.links x.0 x.1))) x (pairs (count p)) u).0 in
        let b = longer (net.links x.0 x.1) (filter-from (λ (x : ℕ × ℕ). not (is_empty (net.links x.0 x.1))) x (pairs (count p)) u).1 in
        let w = within p (count p) net (c.kept f) (c.counted f) x.0 x.1 (In-below (count p) x.0 a.1) (In-below (count p) x.1 a.0) in
        omega arith

pub unfinished_below : (p : Csp) → UnfinishedBelow p
unfinished_below p ok cs f t = below_bound p (run p cs (start p)) (goes_run p cs (start p) (goes_start p ok)) f t
