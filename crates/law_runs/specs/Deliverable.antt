-- Which messages are in transit in a reached network.
use Rattle.std.specs.Prelude.{◌≡◌, ◌≢◌, ℕ, ◌-◌, ◌<◌, false, List, length, slice_get, Some}
use Rattle.std.specs.Option.{option_map}
use Rattle.dcsp_defs.specs.declared.nogood.Pair.{Pair}
use Rattle.dcsp_defs.specs.Words.{In}
use Rattle.dcsp_defs.specs.Csp.{Csp, IsCsp, Nogood, domain, count}
use Rattle.dcsp_defs.specs.declared.Step.{Step}
use Rattle.abt_defs.specs.Agents.{Message, Tell, Refuse, AddLink, Stamped, StampedNogood, plain}
use Rattle.abt_defs.specs.Network.{Network, run, start}
use Rattle.law_agent.specs.Sources.{IsOfStep, AreOfSteps}

-- a value that a higher agent tells: it is of that agent's domain, and its stamp is above 0
pub record IsTelling (p : Csp) (from to : ℕ) (s : Stamped) : Type 0 where
  pub higher : from < to
  pub value_in : In s.value (domain p from)
  pub stamped : 0 < s.stamp

-- the variable of the last pair is i
abbrev pub HasLowest : Nogood → ℕ → Type 0
HasLowest pairs i = option_map (λ (y : Pair). y.var) (slice_get pairs (length pairs - 1)) ≡ Some i

-- a nogood for agent i, after these steps: its lowest variable is i, its values are of the domains, each stamp is above 0, and it is that of the step that it names
pub record IsRefusing (p : Csp) (steps : List Step) (i number : ℕ) (pairs : StampedNogood) : Type 0 where
  pub lowest : HasLowest (plain pairs) i
  pub values : (y : Pair) → In y (plain pairs) → In y.value (domain p y.var)
  pub stamped : (y : ℕ × Stamped) → In y pairs → 0 < y.1.stamp
  pub of_step : IsOfStep steps number (plain pairs)

-- a link request from a lower agent
pub record IsAsking (p : Csp) (from to : ℕ) : Type 0 where
  pub lower : to < from
  pub exists : from < count p

-- a message that agent to can take from agent from, after these steps
abbrev pub IsDeliverable : Csp → List Step → ℕ → ℕ → Message → Type 0
IsDeliverable p steps from to (Tell s) = IsTelling p from to s
IsDeliverable p steps from to (Refuse number pairs) = IsRefusing p steps to number pairs
IsDeliverable p steps from to AddLink = IsAsking p from to

-- each message in transit can be taken, each stamp that is kept is above 0, and each recorded nogood is that of the step that it names
pub record Deliverable (p : Csp) (net : Network) : Type 0 where
  pub messages : (from to : ℕ) (m : Message) → In m (net.links from to) → IsDeliverable p net.steps from to m
  pub stamps : (i : ℕ) → i < count p → 0 < (net.agents i).stamp
  pub views : (i k : ℕ) (s : Stamped) → (net.agents i).view k ≡ Some s → 0 < s.stamp
  pub recorded : (i : ℕ) → AreOfSteps net.steps (net.agents i).recorded

-- It is so in every reached network that is not refuted.
abbrev pub AllDeliverable : Csp → Type 0
AllDeliverable p = IsCsp p → (choices : List ℕ) → (run p choices (start p)).refuted ≡ false → Deliverable p (run p choices (start p))

-- two different agents of the problem
pub record AreTwoAgents (p : Csp) (from to : ℕ) : Type 0 where
  pub sender : from < count p
  pub receiver : to < count p
  pub different : from ≢ to

-- In every reached network, refuted or not, messages are in transit between two different agents of the problem alone.
abbrev pub LinksJoin : Csp → Type 0
LinksJoin p = IsCsp p → (choices : List ℕ) (from to : ℕ) (m : Message) → In m ((run p choices (start p)).links from to) → AreTwoAgents p from to
