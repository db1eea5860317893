-- What the inside of the code's network stands for.
use Rattle.std.specs.Prelude.{◌≡◌, ℕ, ◌<◌, ◌≤◌, ◌^◌, Bool, true, false, List, [], ◌∷◌, length}
use Rattle.dcsp_defs.specs.Words.{In}
use Rattle.abt_defs.specs.Agents as machine
use Rattle.abt_defs.specs.Steps.{receive}
use Rattle.abt_defs.specs.Network.{Network as TheNetwork, empty_network}
use Rattle.dcsp_rule.specs.Problems.{Contents, csp_of}
use Rattle.abt_parts.specs.declared.message.Message.{Message}
use Rattle.abt_parts.specs.Messages.{message_of}
use Rattle.abt_parts.specs.Outgoing.{IsStamped}
use Rattle.abt_agent.specs.States.{State, stands_for, CanReceive, IsFresh}
use Rattle.abt_links.specs.Transit.{Transit, link_of}
use Rattle.abt_network.specs.declared.body.NetworkBody.{NetworkBody}
use Rattle.abt_network.specs.Standing.{NetworkState, Stands, StandsAt, state_at, reached}

-- what callers see
abbrev pub shown : NetworkBody → Bool → NetworkState
shown b spent = record { problem = b.problem.now; agents = b.agents.items; links = b.links; refuted = b.refuted; deliveries = b.deliveries; steps = b.steps; begun = b.begun; sent = b.sent.items; spent = spent }

-- agents and links stand where the network is
abbrev pub StandsIn : NetworkBody → TheNetwork → Type 0
StandsIn b net = Stands b.problem.now b.agents.items b.links net

-- there are as many agents as variables, and links between them
pub record IsSized (b : NetworkBody) : Type 0 where
  pub long : length b.agents.items ≡ length b.problem.now.domains
  pub linked : b.links.agents ≡ length b.problem.now.domains

-- each agent is in its place, and has memory
pub record IsSeated (p : Contents) (agents : List State) : Type 0 where
  pub problems : (i : ℕ) → i < length p.domains → (state_at agents i).problem ≡ p
  pub seats : (i : ℕ) → i < length p.domains → (state_at agents i).me ≡ i
  pub sound : (i : ℕ) → i < length p.domains → (state_at agents i).spent ≡ false

-- each message in transit has its stamps
abbrev pub AreStamped : Transit → Type 0
AreStamped t = (k i : ℕ) (m : Message) → In m (link_of t k i) → IsStamped m

-- what holds between two deliveries, and during the start between two agents
pub record IsTidy (b : NetworkBody) : Type 0 where
  pub sized : IsSized b
  pub seated : IsSeated b.problem.now b.agents.items
  pub none_out : b.out ≡ []
  pub stamped : AreStamped b.links

-- some run leads there
pub record IsReached (s : NetworkState) : Type 0 where
  pub choices : List ℕ
  pub stands : StandsAt s (reached s choices)

-- no agent from i on has settled
abbrev pub AreFreshFrom : Contents → List State → ℕ → Type 0
AreFreshFrom p agents i = (k : ℕ) → i ≤ k → k < length p.domains → IsFresh p k (state_at agents k)

-- a network of this problem before its start
pub record IsBlank (p : Contents) (b : NetworkBody) : Type 0 where
  pub problem : b.problem.now ≡ p
  pub begun : b.begun ≡ false
  pub fresh : AreFreshFrom b.problem.now b.agents.items 0
  pub stands : StandsAt (shown b false) (empty_network (csp_of b.problem.now))

-- what always holds of a network that has memory
pub record IsKept (b : NetworkBody) : Type 0 where
  pub tidy : IsTidy b
  pub few : b.deliveries ≤ 2 ^ 48
  pub blank : b.begun ≡ false → IsBlank b.problem.now b
  pub reached : b.begun ≡ true → IsReached (shown b false)

-- what is asked of a message in transit from one agent to another, before a step with this number
pub record Expects (p : Contents) (agents : List State) (next from to : ℕ) (m : Message) : Type 0 where
  pub fit : CanReceive (state_at agents to) from next m
  pub receivers : (x : ℕ × machine.Message) → In x (receive (csp_of p) to next (stands_for (state_at agents to)) from (message_of m)).sent → x.0 < length p.domains

-- it holds of each message that can be delivered
abbrev pub ExpectsAll : Contents → List State → Transit → ℕ → Type 0
ExpectsAll p agents links next = (from to : ℕ) (m : Message) (rest : List Message) → from < length p.domains → to < length p.domains → link_of links from to ≡ m ∷ rest → Expects p agents next from to m

-- what always holds of a network: it is as large as its problem, and while it has memory the rest is kept
pub record IsSound (b : NetworkBody) (spent : Bool) : Type 0 where
  pub sized : IsSized b
  pub kept : spent ≡ false → IsKept b
