-- How the code's network stands to the network of the definitions.
use Rattle.std.specs.Prelude.{◌≡◌, ℕ, ◌<◌, ◌≤◌, ◌^◌, Bool, true, false, List, [], ◌∷◌, ◌++◌, map, flat_map, length, Option, None, Some, option_to_list, slice_index_or, IfSome, if◌then◌else◌, ◌==◌, ◌&&◌}
use Rattle.std.specs.List.{AllByRecursion}
use Rattle.dcsp_defs.specs.Csp.{Csp}
use Rattle.dcsp_defs.specs.Derivation.{IsDerivation, IsRight}
use Rattle.dcsp_defs.specs.declared.Step.{Step}
use Rattle.abt_defs.specs.Agents.{Message}
use Rattle.abt_defs.specs.Bound.{message_bound}
use Rattle.abt_defs.specs.Network as machine
use Rattle.abt_defs.specs.Network.{run, start, deliver, ready, is_empty, refutes, sent_to}
use Rattle.abt_defs.specs.Runs as runs
use Rattle.abt_defs.specs.Events.{Act, choice_acts}
use Rattle.law_runs.specs.Stops.{list_number}
use Rattle.ngd_log.specs.StepText.{IsInRange}
use Rattle.dcsp_rule.specs.declared.aim.Aim.TheVariants.{Satisfy}
use Rattle.dcsp_rule.specs.Problems.{Contents, csp_of}
use Rattle.abt_parts.specs.Messages.{message_of, told_sent}
use Rattle.abt_agent.specs.States.{State, stands_for}
use Rattle.abt_links.specs.Transit.{Transit, link_of, ready_pairs}
use Rattle.abt_network.specs.declared.Begun.{Begun}
use Rattle.abt_network.specs.declared.Begun.TheVariants as begun
use Rattle.abt_network.specs.declared.Standing.{Standing}
use Rattle.abt_network.specs.declared.Standing.TheVariants.{Open, Quiet, Refuted}
use Rattle.abt_network.specs.declared.Cargo.{Cargo}
use Rattle.abt_network.specs.declared.Cargo.TheVariants.{Tell, Refuse, AddLink}
use Rattle.abt_network.specs.declared.Delivery.{Delivery}
use Rattle.abt_parts.specs.declared.message.SentTo.{SentTo}

-- what the code's network has
pub record NetworkState : Type 0 where
  pub problem : Contents
  pub agents : List State
  pub links : Transit
  pub refuted : Bool
  pub deliveries : ℕ
  pub steps : ℕ  -- how many were made
  pub begun : Bool
  pub sent : List SentTo  -- by the last delivery
  pub spent : Bool  -- it ran out of memory

-- the messages in transit from k to i, as the definitions have them
abbrev pub messages_on : Transit → ℕ → ℕ → List Message
messages_on t k i = map message_of (link_of t k i)

-- the messages in transit from k to i, once this message was sent from one agent to another
abbrev pub messages_with : Transit → (from to : ℕ) → Message → ℕ → ℕ → List Message
messages_with t from to m k i = if k == from && i == to then messages_on t k i ++ m ∷ [] else messages_on t k i

-- the messages in transit from k to i, once an agent sent these messages
abbrev pub messages_after : Transit → ℕ → List (ℕ × Message) → ℕ → ℕ → List Message
messages_after t from sent k i = if k == from then messages_on t k i ++ sent_to i sent else messages_on t k i

-- what stands past the last agent
abbrev pub no_state : State
no_state = record { problem = record { domains = []; rules = []; outputs = []; aim = Satisfy }; me = 0; value = None; stamp = 0; waits = false; view = []; store = []; tells = []; linked = []; spent = false }

-- agent number i
abbrev pub state_at : List State → ℕ → State
state_at agents i = slice_index_or agents i no_state

-- agents and messages are those of the definitions' network
pub record Stands (p : Contents) (agents : List State) (links : Transit) (net : machine.Network) : Type 0 where
  pub states : (i : ℕ) → i < length p.domains → stands_for (state_at agents i) ≡ net.agents i
  pub lists : (k i : ℕ) → messages_on links k i ≡ net.links k i

-- the code's network stands where the definitions' network is
pub record StandsAt (s : NetworkState) (net : machine.Network) : Type 0 where
  pub parts : Stands s.problem s.agents s.links net
  pub refuted : s.refuted ≡ net.refuted
  pub deliveries : s.deliveries ≡ net.deliveries
  pub steps : s.steps ≡ length net.steps

-- the network that a run of its problem reaches under these choices
abbrev pub reached : NetworkState → List ℕ → machine.Network
reached s choices = run (csp_of s.problem) choices (start (csp_of s.problem))

-- the network stands where a run of its problem under these choices leads
abbrev pub IsAfter : NetworkState → List ℕ → Type 0
IsAfter s choices = StandsAt s (reached s choices)

-- ---- the start

-- the steps that a start tells of
abbrev pub steps_of : Begun → List Step
steps_of begun.Running = []
steps_of (begun.Refuted s) = s ∷ []

-- whether a start tells of a refutation
abbrev pub is_refuted : Begun → Bool
is_refuted begun.Running = false
is_refuted (begun.Refuted s) = true

-- the network stands where the start leaves it, and the start's step is told, which is right and can stand in a log
pub record Starts (p : Contents) (new : NetworkState) (told : Begun) : Type 0 where
  pub stands : StandsAt new (start (csp_of p))
  pub steps : (start (csp_of p)).steps ≡ steps_of told
  pub refuted : (start (csp_of p)).refuted ≡ is_refuted told
  pub right : IsDerivation (csp_of p) (steps_of told)
  pub in_range : AllByRecursion IsInRange (steps_of told)

-- ---- deliveries

-- what is told of a message
abbrev pub cargo_in : Cargo → runs.Cargo
cargo_in (Tell value) = runs.Tell value
cargo_in (Refuse step) = runs.Refuse step
cargo_in AddLink = runs.AddLink

-- what is told of a delivery, but for its step
abbrev pub delivery_of : Delivery → runs.Delivery
delivery_of d = record { sender = d.from; receiver = d.to; cargo = cargo_in d.cargo }

-- the network stands where the choice leads from this network; number, sender, receiver, cargo and step are those of that delivery
pub record Delivers (p : Contents) (new : NetworkState) (net : machine.Network) (choice : ℕ) (d : Delivery) : Type 0 where
  pub stands : StandsAt new (deliver (csp_of p) choice net)
  pub number : d.number ≡ list_number (csp_of p) choice net
  pub told : runs.delivery (csp_of p) choice net ≡ delivery_of d ∷ []
  pub steps : (deliver (csp_of p) choice net).steps ≡ net.steps ++ option_to_list d.step
  pub refuted : (deliver (csp_of p) choice net).refuted ≡ refutes d.step

-- what is told is what the receiver of the delivery sends that the choice makes in this network
abbrev pub TellsSent : Contents → List SentTo → machine.Network → ℕ → Type 0
TellsSent p told net choice = told ≡ map told_sent (flat_map (λ (a : Act). a.sent) (choice_acts (csp_of p) choice net))

-- it is agent i of the problem, and has memory
pub record IsSeat (p : Contents) (i : ℕ) (s : State) : Type 0 where
  pub problem : s.problem ≡ p
  pub me : s.me ≡ i
  pub good : s.spent ≡ false

-- a step that was made is right after these
abbrev pub IsRightStep : Csp → List Step → Option Step → Type 0
IsRightStep p steps None = Unit {0}
IsRightStep p steps (Some s) = IsRight p steps s

-- the network goes on with the run under these choices and this one, within the bound, by a right step, which can stand in a log, if by one
pub record LeadsOn (old new : NetworkState) (choices : List ℕ) (choice : ℕ) (d : Delivery) : Type 0 where
  pub stands : StandsAt new (reached old (choices ++ choice ∷ []))
  pub bound : new.deliveries ≤ message_bound (csp_of old.problem)
  pub right : IsRightStep (csp_of old.problem) (reached old choices).steps d.step
  pub in_range : IfSome d.step IsInRange

-- ---- how it stands

-- of a network of the definitions
abbrev pub standing_of : Csp → machine.Network → Standing
standing_of p net = if net.refuted then Refuted else (if is_empty (ready p net) then Quiet else Open)

-- of the code's network
abbrev pub standing_in : NetworkState → Standing
standing_in s = if s.refuted then Refuted else (if is_empty (ready_pairs s.links) then Quiet else Open)

-- a delivery can be made
pub record CanDeliver (s : NetworkState) : Type 0 where
  pub begun : s.begun ≡ true
  pub open_ : standing_in s ≡ Open
  pub few : s.deliveries < 2 ^ 48

-- a start can be made
abbrev pub CanStart : NetworkState → Type 0
CanStart s = s.begun ≡ false
