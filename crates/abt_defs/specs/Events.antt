-- The events of a run: what each agent did in them, and what it sent.
use Rattle.std.specs.Prelude.{ℕ, zero, suc, ◌%◌, List, [], ◌∷◌, ◌++◌, length, find, slice_get, Option, Some, None, if◌then◌else◌}
use Rattle.std.specs.List.{enumerate_from}
use Rattle.dcsp_defs.specs.Csp.{Csp, Constraint, count}
use Rattle.abt_defs.specs.Agents.{Agent, Message}
use Rattle.abt_defs.specs.Steps.{Outcome, settle, receive}
use Rattle.abt_defs.specs.Network.{Network, empty_network, settle_below, is_false, next_number, ready, deliver, start}

-- what one agent does in an event: in the start it settles, in a delivery it receives a message
pub record Act : Type 0 where
  pub agent : ℕ
  pub came : Option (ℕ × Message)  -- the message, with its sender
  pub before : Agent
  pub after : Agent
  pub sent : List (ℕ × Message)  -- each with its receiver, in order

-- agent i, which was so before, has this outcome
abbrev pub act_of : ℕ → Option (ℕ × Message) → Agent → Outcome → Act
act_of i came a o = record { agent = i; came = came; before = a; after = o.agent; sent = o.sent }

-- ---- the start

-- the agents below a number settle in order until one refutes
abbrev pub settlings_below : Csp → ℕ → List Act
settlings_below p zero = []
settlings_below p (suc i) =
    let before = settle_below p i (empty_network p) in
    settlings_below p i ++ (if before.refuted then [] else act_of i None (before.agents i) (settle p i (next_number before) (before.agents i)) ∷ [])

-- none does where a constraint without variables is false
abbrev pub start_acts_by : Csp → Option (ℕ × Constraint) → List Act
start_acts_by p None = settlings_below p (count p)
start_acts_by p (Some x) = []

-- what agents do in the start
abbrev pub start_acts : Csp → List Act
start_acts p = start_acts_by p (find (λ (x : ℕ × Constraint). is_false x.1) (enumerate_from 0 p.constraints))

-- ---- deliveries

-- the head of the list from k to i is handed to i
abbrev pub head_acts : Csp → ℕ → ℕ → List Message → Network → List Act
head_acts p k i [] net = []
head_acts p k i (m ∷ rest) net = act_of i (Some (k, m)) (net.agents i) (receive p i (next_number net) (net.agents i) k m) ∷ []

-- the head of the list of this pair is handed on, if there is a pair
abbrev pub acts_at : Csp → Option (ℕ × ℕ) → Network → List Act
acts_at p None net = []
acts_at p (Some x) net = head_acts p x.0 x.1 (net.links x.0 x.1) net

-- what the receiver does that a choice delivers to
abbrev pub choice_acts : Csp → ℕ → Network → List Act
choice_acts p c net = acts_at p (slice_get (ready p net) (c % length (ready p net))) net

-- the deliveries from a network under the choices in order, until the run is refuted or nothing is in transit
abbrev pub later_acts : Csp → List ℕ → Network → List Act
later_acts p [] net = []
later_acts p (c ∷ cs) net = if net.refuted then [] else choice_acts p c net ++ later_acts p cs (deliver p c net)

-- all that agents do in a run under the choices
abbrev pub acts : Csp → List ℕ → List Act
acts p choices = start_acts p ++ later_acts p choices (start p)
