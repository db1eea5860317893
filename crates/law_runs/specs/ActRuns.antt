-- The acts of a run are the run: what each agent is in the end, and what is in transit.
use Rattle.std.specs.Prelude.{◌≡◌, ℕ, ◌==◌, ◌&&◌, List, [], ◌∷◌, ◌++◌, flat_map, length, if◌then◌else◌}
use Rattle.dcsp_defs.specs.Csp.{Csp}
use Rattle.abt_defs.specs.Agents.{Agent, Message, fresh}
use Rattle.abt_defs.specs.Network.{Network, run, start, sent_to}
use Rattle.abt_defs.specs.Events.{Act, acts}
use Rattle.abt_defs.specs.Clocks.{sender_of, is_from}
use Rattle.abt_defs.specs.Measures.{messages_got}

-- what agent i is after these acts, where it was so before
abbrev pub agent_after : Agent → ℕ → List Act → Agent
agent_after a i [] = a
agent_after a i (x ∷ xs) = agent_after (if i == x.agent then x.after else a) i xs

-- what an act sends from a to b
abbrev pub sends : ℕ → ℕ → Act → List Message
sends a b x = if a == x.agent then sent_to b x.sent else []

-- what an act receives that a sent to b
abbrev pub gets : ℕ → ℕ → Act → List Message
gets a b x = if is_from a (sender_of x.came) && b == x.agent then messages_got x else []

-- the run that acts are of
pub record Make (p : Csp) (acts : List Act) (net : Network) : Type 0 where
  pub agents : (i : ℕ) → net.agents i ≡ agent_after (fresh p i) i acts
  -- what was sent from a to b is what was delivered, and then what is in transit
  pub links : (a b : ℕ) → flat_map (sends a b) acts ≡ flat_map (gets a b) acts ++ net.links a b
  pub deliveries : length (flat_map messages_got acts) ≡ net.deliveries

-- It is so for all choices.
abbrev pub ActsMakeRuns : Csp → Type 0
ActsMakeRuns p = (choices : List ℕ) → Make p (acts p choices) (run p choices (start p))
