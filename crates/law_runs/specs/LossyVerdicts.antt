-- What the ends mean, and how many messages are handed up.
use Rattle.std.specs.Prelude.{◌≡◌, ℕ, ◌≤◌, true, false, List, length}
use Rattle.dcsp_defs.specs.Words.{sum_below}
use Rattle.dcsp_defs.specs.Csp.{Csp, IsCsp, HasNoSolution, count}
use Rattle.dcsp_defs.specs.Derivation.{IsDerivation, IsRefutation}
use Rattle.abt_defs.specs.Network.{IsSolved}
use Rattle.abt_defs.specs.Bound.{message_bound}
use Rattle.law_runs.specs.Worlds.{World, begin, after}
use Rattle.law_runs.specs.Deliveries.{numbers}
use Rattle.law_runs.specs.LossyEnds.{is_quiet}

-- In a quiet world that is not refuted nobody waits, and the agents' values are a solution.
abbrev pub QuietIsSolved : Csp → Type 0
QuietIsSolved p = IsCsp p → (words : List ℕ) → (after p words (begin p)).network.refuted ≡ false → is_quiet p (after p words (begin p)) ≡ true → IsSolved p (after p words (begin p)).network

-- the steps are right, and a refuted run has no solution
pub record AreRightSteps (p : Csp) (w : World) : Type 0 where
  pub right : IsDerivation p w.network.steps
  pub refuted : w.network.refuted ≡ true → IsRefutation p w.network.steps
  pub no_solution : w.network.refuted ≡ true → HasNoSolution p

-- It is so after all events.
abbrev pub StepsAreRight : Csp → Type 0
StepsAreRight p = IsCsp p → (words : List ℕ) → AreRightSteps p (after p words (begin p))

-- a count of each pair, summed over all pairs
abbrev pub total : Csp → (ℕ → ℕ → ℕ) → ℕ
total p counts = sum_below (λ k. sum_below (counts k) (count p)) (count p)

-- each message that was handed up is one delivery with its number, and they are at most the message bound
pub record AreBounded (p : Csp) (words : List ℕ) (w : World) : Type 0 where
  pub counted : total p w.handed_up ≡ w.network.deliveries
  pub numbered : length (numbers p words (begin p)) ≡ w.network.deliveries
  pub bound : w.network.deliveries ≤ message_bound p

-- It is so after all events.
abbrev pub HandedUpBounded : Csp → Type 0
HandedUpBounded p = IsCsp p → (words : List ℕ) → AreBounded p words (after p words (begin p))
