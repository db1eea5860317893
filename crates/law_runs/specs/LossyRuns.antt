-- The world is a run of the agents over reliable links.
use Rattle.std.specs.Prelude.{◌≡◌, ℕ, ◌<◌, ◌≤◌, false, ◌⊎◌, List, [], ◌∷◌, ◌++◌, length, slice_get, Some, None, option_to_list, ◌==◌, if◌then◌else◌}
use Rattle.dcsp_defs.specs.Csp.{Csp}
use Rattle.abt_defs.specs.Network.{Network, start, run, ready, deliver}
use Rattle.abt_defs.specs.Runs.{End, Refuted, Solved, Capped, Spent, Run, whole}
use Rattle.law_runs.specs.Worlds.{World, begin, reliable, event, after}
use Rattle.law_runs.specs.Deliveries.{number_of, delivered, numbers}
use Rattle.law_runs.specs.LossyEnds.{is_quiet}

-- After any events the world is where the run over reliable links is, under the numbers of all that was handed up.
abbrev pub IsRun : Csp → Type 0
IsRun p = (words : List ℕ) → reliable (after p words (begin p)) ≡ run p (numbers p words (begin p)) (start p)

-- The event hands up nothing and leaves the network of reliable links as it is, or it is one delivery there, of the list that has its number.
abbrev pub IsOneDelivery : Csp → ℕ → World → Type 0
IsOneDelivery p word w =
    ((delivered p word w ≡ None) × (reliable (event p word w) ≡ reliable w))
    ⊎ (c : ℕ) × (delivered p word w ≡ Some c) × (c < length (ready p (reliable w))) × (reliable (event p word w) ≡ deliver p c (reliable w))

-- one event more
pub record OneMore (p : Csp) (words : List ℕ) (word : ℕ) (w : World) : Type 0 where
  pub next : after p (words ++ word ∷ []) (begin p) ≡ event p word w
  pub numbers : numbers p (words ++ word ∷ []) (begin p) ≡ numbers p words (begin p) ++ option_to_list (delivered p word w)
  pub moves : IsOneDelivery p word w

-- While nothing is refuted, one event more hands up nothing or is one delivery.
abbrev pub OneMoreEvent : Csp → Type 0
OneMoreEvent p = (words : List ℕ) (word : ℕ) → (after p words (begin p)).network.refuted ≡ false → OneMore p words word (after p words (begin p))

-- The number of a pair among those whose list is not empty is its place there.
abbrev pub NumbersArePlaces : Csp → Type 0
NumbersArePlaces p = (net : Network) (place k i : ℕ) → slice_get (ready p net) place ≡ Some (k, i) → number_of p net (Some (k, i)) ≡ Some place

-- the end of the run over reliable links, with this greatest number of deliveries
abbrev pub end_of : Csp → ℕ → World → End
end_of p most w = if w.network.refuted then Refuted else (if is_quiet p w then Solved else (if w.network.deliveries == most then Capped else Spent))

-- the whole run is the world's: same network, same numbers, none of them left, and the end as the world says
pub record IsWholeRun (p : Csp) (most : ℕ) (choices : List ℕ) (w : World) (r : Run) : Type 0 where
  pub net : r.net ≡ reliable w
  pub numbers : r.numbers ≡ choices
  pub left : r.left ≡ []
  pub end : r.end ≡ end_of p most w

-- The numbers of all that was handed up, as recorded choices, give the same run again.
abbrev pub IsWhole : Csp → Type 0
IsWhole p = (words : List ℕ) (most : ℕ) → length (numbers p words (begin p)) ≤ most
    → IsWholeRun p most (numbers p words (begin p)) (after p words (begin p)) (whole p most (numbers p words (begin p)))
