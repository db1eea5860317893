-- What the ends of a whole run mean, and its repetition.
use Rattle.std.specs.Prelude.{◌≡◌, ℕ, ◌+◌, ◌<◌, ◌≤◌, ◌⊎◌, List, [], ◌∷◌, ◌++◌, length, false}
use Rattle.dcsp_defs.specs.Csp.{Csp, IsCsp, HasNoSolution}
use Rattle.dcsp_defs.specs.Derivation.{IsDerivation, IsRefutation}
use Rattle.abt_defs.specs.Network.{Network, IsSolved, run, start, deliver, ready, is_empty}
use Rattle.abt_defs.specs.Bound.{message_bound}
use Rattle.abt_defs.specs.Runs.{Refuted, Solved, Capped, Spent, Run, whole}

-- What a whole run is, whatever the choices are.
pub record Verdicts (p : Csp) (most : ℕ) (r : Run) : Type 0 where
  pub solved : r.end ≡ Solved → IsSolved p r.net
  pub right : IsDerivation p r.net.steps
  pub refuted : r.end ≡ Refuted → IsRefutation p r.net.steps
  pub no_solution : r.end ≡ Refuted → HasNoSolution p
  pub bound : r.net.deliveries ≤ message_bound p
  pub unfinished : (r.end ≡ Capped) ⊎ (r.end ≡ Spent) → r.net.deliveries < message_bound p
  pub at_most : r.net.deliveries ≤ most
  pub capped : r.end ≡ Capped → r.net.deliveries ≡ most
  pub spent : r.end ≡ Spent → r.left ≡ []
  pub counted : length r.numbers ≡ r.net.deliveries
  pub traced : length r.trace ≡ r.net.deliveries

-- Every run of a well-formed problem has the verdicts.
abbrev pub AllVerdicts : Csp → Type 0
AllVerdicts p = IsCsp p → (most : ℕ) (choices : List ℕ) → Verdicts p most (whole p most choices)

-- the same run by its numbers: nothing is left, and the end is the same, or spent where it was capped
pub record Repeats (first again : Run) : Type 0 where
  pub net : again.net ≡ first.net
  pub left : again.left ≡ []
  pub numbers : again.numbers ≡ first.numbers
  pub trace : again.trace ≡ first.trace
  pub end : (again.end ≡ first.end) ⊎ ((first.end ≡ Capped) × (again.end ≡ Spent))

-- A run is replayed by its own numbers, under a greatest number of deliveries that is no lower.
abbrev pub Replays : Csp → Type 0
Replays p = (most more : ℕ) (choices : List ℕ) → most ≤ more → Repeats (whole p most choices) (whole p more (whole p most choices).numbers)

-- what one delivery more makes of a run that goes on
pub record GoesOn (p : Csp) (choices : List ℕ) (c : ℕ) (net : Network) : Type 0 where
  pub next : run p (choices ++ c ∷ []) (start p) ≡ deliver p c net
  pub counted : (deliver p c net).deliveries ≡ net.deliveries + 1
  pub bound : net.deliveries + 1 ≤ message_bound p
  pub right : IsDerivation p (deliver p c net).steps
  pub steps : length (deliver p c net).steps ≤ length net.steps + 1

-- For every list of choices: where the run under it is not refuted and has something in transit, it goes on under one choice more.
abbrev pub Continues : Csp → Type 0
Continues p = IsCsp p → (choices : List ℕ) (c : ℕ) → (run p choices (start p)).refuted ≡ false → is_empty (ready p (run p choices (start p))) ≡ false → GoesOn p choices c (run p choices (start p))
