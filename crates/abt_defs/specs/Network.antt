-- All agents, and one list of messages for each ordered pair of them.
use Rattle.std.specs.Prelude.{◌≡◌, ℕ, ◌+◌, ◌<◌, ◌%◌, Bool, true, false, cond, not, ◌&&◌, List, [], ◌∷◌, ◌++◌, map, filter, flat_map, length, slice_get, Option, Some, None, pos, suc, zero, unwrap_or, ◌==◌, if◌then◌else◌, option_to_list}
use Rattle.std.specs.List.{enumerate_from, find}
use Rattle.dcsp_defs.specs.Words.{below, update}
use Rattle.dcsp_defs.specs.Csp.{Csp, Constraint, IsSolution, Assignment, count}
use Rattle.dcsp_defs.specs.declared.Reason.TheVariants.{Rule}
use Rattle.dcsp_defs.specs.declared.Step.{Step}
use Rattle.abt_defs.specs.Agents.{Agent, Message, fresh}
use Rattle.abt_defs.specs.Steps.{Outcome, settle, receive}

-- all agents, what is in transit between them, and what came of it so far
pub record Network : Type 0 where
  pub agents : ℕ → Agent
  pub links : ℕ → ℕ → List Message  -- from the first to the second, the oldest first
  pub steps : List Step  -- all that were made, in order
  pub refuted : Bool
  pub deliveries : ℕ

-- what was sent to j, in order
abbrev pub sent_to : ℕ → List (ℕ × Message) → List Message
sent_to j [] = []
sent_to j (x ∷ xs) = cond (x.0 == j) (x.1 ∷ sent_to j xs) (sent_to j xs)

-- whether the list has no item
abbrev pub is_empty : {X : Type 0} → List X → Bool
is_empty [] = true
is_empty (x ∷ xs) = false

-- an empty nogood refutes
abbrev pub refutes : Option Step → Bool
refutes None = false
refutes (Some step) = is_empty step.nogood

-- agent i has acted
abbrev pub acted : ℕ → Outcome → Network → Network
acted i o net = record {
  agents = update net.agents i o.agent;
  links = λ k j. if k == i then net.links k j ++ sent_to j o.sent else net.links k j;
  steps = net.steps ++ option_to_list o.step;
  refuted = refutes o.step;
  deliveries = net.deliveries;
}

-- the list from k to i has only these left
abbrev pub left : ℕ → ℕ → List Message → Network → Network
left k i rest net = record net { links = update net.links k (update (net.links k) i rest); deliveries = net.deliveries + 1 }

-- the number of the step that is made next
abbrev pub next_number : Network → ℕ
next_number net = length net.steps + 1

-- the head of the list from k to i is handed to i
abbrev pub deliver_head : Csp → ℕ → ℕ → List Message → Network → Network
deliver_head p k i [] net = net
deliver_head p k i (m ∷ rest) net = acted i (receive p i (next_number net) (net.agents i) k m) (left k i rest net)

-- all ordered pairs, by sender and then by receiver
abbrev pub pairs : ℕ → List (ℕ × ℕ)
pairs n = flat_map (λ k. map (λ i. (k, i)) (below n)) (below n)

-- the pairs whose list is not empty
abbrev pub ready : Csp → Network → List (ℕ × ℕ)
ready p net = filter (λ (x : ℕ × ℕ). not (is_empty (net.links x.0 x.1))) (pairs (count p))

-- the head of the list of this pair is delivered, if there is a pair
abbrev pub deliver_at : Csp → Option (ℕ × ℕ) → Network → Network
deliver_at p None net = net
deliver_at p (Some x) net = deliver_head p x.0 x.1 (net.links x.0 x.1) net

-- choice c delivers from the nonempty list number c mod m, where m is the number of nonempty lists
abbrev pub deliver : Csp → ℕ → Network → Network
deliver p c net = deliver_at p (slice_get (ready p net) (c % length (ready p net))) net

-- fresh agents, and nothing in transit
abbrev pub empty_network : Csp → Network
empty_network p = record { agents = fresh p; links = λ k i. []; steps = []; refuted = false; deliveries = 0 }

-- a constraint without variables that is false
abbrev pub is_false : Constraint → Bool
is_false c = is_empty c.scope && not (c.test (λ k. pos 0))

-- the agents settle in order until one refutes
abbrev pub settle_below : Csp → ℕ → Network → Network
settle_below p zero net = net
settle_below p (suc i) net =
    let before = settle_below p i net in
    if before.refuted then before else acted i (settle p i (next_number before) (before.agents i)) before

-- Where a constraint without variables is false, the first such, here with its number, is the one reason of a step that refutes.
abbrev pub start_by : Csp → Option (ℕ × Constraint) → Network
start_by p None = settle_below p (count p) (empty_network p)
start_by p (Some x) =
    record (empty_network p) { steps = record { variable = None; nogood = []; reasons = Rule x.0 ∷ [] } ∷ []; refuted = true }

-- the network as a run begins with it
abbrev pub start : Csp → Network
start p = start_by p (find (λ (x : ℕ × Constraint). is_false x.1) (enumerate_from 0 p.constraints))

-- under the choices in order, until the run is refuted or nothing is in transit
abbrev pub run : Csp → List ℕ → Network → Network
run p [] net = net
run p (c ∷ cs) net = if net.refuted then net else run p cs (deliver p c net)

-- the agents' values
abbrev pub values : Network → Assignment
values net i = unwrap_or (net.agents i).value (pos 0)

-- no message is on any list
abbrev pub IsQuiet : Csp → Network → Type 0
IsQuiet p net = (k i : ℕ) → k < count p → i < count p → net.links k i ≡ []

-- nobody waits, each agent has a value, and these are a solution
pub record IsSolved (p : Csp) (net : Network) : Type 0 where
  pub nobody_waits : (i : ℕ) → i < count p → (net.agents i).waits ≡ false
  pub have_values : (i : ℕ) → i < count p → (net.agents i).value ≡ Some (values net i)
  pub solution : IsSolution p (values net)
