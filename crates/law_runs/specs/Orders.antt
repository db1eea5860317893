-- Orders of deliveries: at each moment some list of messages delivers its head.
use Rattle.std.specs.Prelude.{◌≡◌, ℕ, ◌*◌, ◌<◌, ◌%◌, false, ◌&&◌, List, [], ◌∷◌, ◌++◌, length, slice_get, Option, Some, None, ◌==◌, if◌then◌else◌}
use Rattle.std.specs.List.{AllByRecursion}
use Rattle.dcsp_defs.specs.Csp.{Csp, count}
use Rattle.abt_defs.specs.Agents.{Message}
use Rattle.abt_defs.specs.Steps.{receive}
use Rattle.abt_defs.specs.Network.{Network, ready, deliver, deliver_at, run, start, is_empty, sent_to, next_number}

-- the pair names a sender and a receiver of the problem, nothing is refuted, and something is on their list
pub record CanDeliver (p : Csp) (pair : ℕ × ℕ) (net : Network) : Type 0 where
  pub sender : pair.0 < count p
  pub receiver : pair.1 < count p
  pub open_still : net.refuted ≡ false
  pub waiting : is_empty (net.links pair.0 pair.1) ≡ false

-- each pair of the order can deliver when its turn comes
abbrev pub IsOrder : Csp → List (ℕ × ℕ) → Network → Type 0
IsOrder p [] net = Unit {0}
IsOrder p (pair ∷ order) net = CanDeliver p pair net × IsOrder p order (deliver_at p (Some pair) net)

-- the pairs deliver in this order
abbrev pub follow : Csp → List (ℕ × ℕ) → Network → Network
follow p [] net = net
follow p (pair ∷ order) net = follow p order (deliver_at p (Some pair) net)

-- each choice is below the number of ordered pairs of variables
abbrev pub AreBelowPairs : Csp → List ℕ → Type 0
AreBelowPairs p choices = AllByRecursion (λ choice. choice < count p * count p) choices

-- Every order is a list of choices, one for each delivery, each below the number of pairs.
abbrev pub OrdersAreChoices : Csp → Type 0
OrdersAreChoices p = (order : List (ℕ × ℕ)) → IsOrder p order (start p)
    → (choices : List ℕ) × (length choices ≡ length order) × AreBelowPairs p choices × (run p choices (start p) ≡ follow p order (start p))

-- the pair from which the choice delivers
abbrev pub chosen_pair : Csp → ℕ → Network → Option (ℕ × ℕ)
chosen_pair p c net = slice_get (ready p net) (c % length (ready p net))

-- the head of the list, if there is one
abbrev pub first_of : List Message → List Message
first_of [] = []
first_of (m ∷ rest) = m ∷ []

-- what a delivery on the pair takes from the list of a and b
abbrev pub taken_by : Option (ℕ × ℕ) → Network → ℕ → ℕ → List Message
taken_by None net a b = []
taken_by (Some pair) net a b = if a == pair.0 && b == pair.1 then first_of (net.links a b) else []

-- what the receiver i of the head from k sends from a to b
abbrev pub sent_by : Csp → ℕ → ℕ → List Message → Network → ℕ → ℕ → List Message
sent_by p k i [] net a b = []
sent_by p k i (m ∷ rest) net a b = if a == i then sent_to b (receive p i (next_number net) (net.agents i) k m).sent else []

-- what a delivery at this pair makes the first send to the second
abbrev pub sent_at : Csp → Option (ℕ × ℕ) → Network → ℕ → ℕ → List Message
sent_at p None net a b = []
sent_at p (Some pair) net a b = sent_by p pair.0 pair.1 (net.links pair.0 pair.1) net a b

-- what a run under the choices delivers from a to b, in order
abbrev pub delivered : Csp → List ℕ → Network → ℕ → ℕ → List Message
delivered p [] net a b = []
delivered p (c ∷ cs) net a b = if net.refuted then [] else taken_by (chosen_pair p c net) net a b ++ delivered p cs (deliver p c net) a b

-- what is sent in it from a to b, in order
abbrev pub sent : Csp → List ℕ → Network → ℕ → ℕ → List Message
sent p [] net a b = []
sent p (c ∷ cs) net a b = if net.refuted then [] else sent_at p (chosen_pair p c net) net a b ++ sent p cs (deliver p c net) a b

-- What was on the list at the start, and then what was sent, is what was delivered, and then what is still in transit.
abbrev pub FirstInFirstOut : Csp → Type 0
FirstInFirstOut p = (choices : List ℕ) (a b : ℕ)
    → (start p).links a b ++ sent p choices (start p) a b ≡ delivered p choices (start p) a b ++ (run p choices (start p)).links a b
