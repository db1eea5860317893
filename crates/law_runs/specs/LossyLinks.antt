-- What the numbers, the acknowledgements and the sending again keep of each link.
use Rattle.std.specs.Prelude.{◌≡◌, ℕ, ◌≤◌, List, take, length}
use Rattle.dcsp_defs.specs.Csp.{Csp}
use Rattle.law_runs.specs.Worlds.{World, begin, after}
use Rattle.law_runs.specs.Deliveries.{handed_messages}
use Rattle.law_runs.specs.WorldFacts.{Facts}

-- The facts on counts and packets hold after all events, a refutation too.
abbrev pub FactsHold : Csp → Type 0
FactsHold p = (words : List ℕ) → Facts p (after p words (begin p))

-- What was handed up on a pair is the first part of what was sent there, as long as the receiver's count says.
abbrev pub HandsUpInOrder : Csp → Type 0
HandsUpInOrder p = (words : List ℕ) (a b : ℕ)
    → let w = after p words (begin p) in
    handed_messages p words (begin p) a b ≡ take (w.handed_up a b) (w.network.links a b)

-- no count is above the number of events
pub record IsSmall (events : ℕ) (w : World) : Type 0 where
  pub pool : length w.pool ≤ events
  pub deliveries : w.network.deliveries ≤ events
  pub handed_up : (k i : ℕ) → w.handed_up k i ≤ w.network.deliveries

-- It is so after all events.
abbrev pub WorldIsSmall : Csp → Type 0
WorldIsSmall p = (words : List ℕ) → IsSmall (length words) (after p words (begin p))
