-- The agent that callers see.
use Rattle.std.specs.Prelude.{◌≡◌, ℕ, ◌-◌, ◌<◌, ◌^◌, ℤ, Bool, false, List, length, Option, Some, slice_get}
use Rattle.std.specs.Option.{option_map}
use Rattle.dcsp_defs.specs.declared.nogood.Pair.{Pair}
use Rattle.dcsp_defs.specs.Words.{In}
use Rattle.dcsp_defs.specs.Csp.{domain}
use Rattle.abt_defs.specs.Agents.{Agent, fresh, is_among}
use Rattle.abt_defs.specs.Steps.{Outcome, settle, receive}
use Rattle.dcsp_rule.specs.Problems.{Contents, csp_of}
use Rattle.abt_parts.specs.declared.message.Message.{Message}
use Rattle.abt_parts.specs.declared.message.Message.TheVariants.{Tell, Refuse, AddLink}
use Rattle.abt_parts.specs.declared.message.Sent.{Sent}
use Rattle.abt_parts.specs.Messages.{message_of}
use Rattle.abt_parts.specs.Views.{view_of, Slots}
use Rattle.abt_parts.specs.declared.recorded.Recorded.{Recorded}
use Rattle.abt_parts.specs.Stores.{records_of}
use Rattle.abt_agent.specs.declared.Turn.{Turn}
use Rattle.abt_marks.specs.Marks.{has_mark}
use Rattle.abt_agent.specs.Turns.{IsTurn}
use Rattle.abt_parts.specs.Outgoing.{AreStampsOf, Posts}

-- what the code's agent has
pub record State : Type 0 where
  pub problem : Contents
  pub me : ℕ
  pub value : Option ℤ
  pub stamp : ℕ
  pub waits : Bool
  pub view : Slots
  pub store : List Recorded
  pub tells : List ℕ  -- rising
  pub linked : List Bool
  pub spent : Bool  -- it ran out of memory

-- the agent of the definitions
abbrev pub stands_for : State → Agent
stands_for s = record {
  value = s.value;
  stamp = s.stamp;
  waits = s.waits;
  view = view_of s.view;
  recorded = records_of s.store;
  tells = λ k. is_among k s.tells;
  linked = has_mark s.linked;
}

-- the agent did what the definitions' agent does: its new state, what it sent, and what it tells of its turn
pub record Acts (old new : State) (o : Outcome) (out went : List Sent) (turn : Turn) : Type 0 where
  pub agent : stands_for new ≡ o.agent
  pub sent : Posts out went o.sent
  pub turn_is : IsTurn (stands_for old) o turn
  pub problem : new.problem ≡ old.problem
  pub me : new.me ≡ old.me
  pub good : new.spent ≡ false

-- the agent settled, where a step that it makes has this number
abbrev pub Settles : State → State → ℕ → List Sent → List Sent → Turn → Type 0
Settles old new number out went turn = Acts old new (settle (csp_of old.problem) old.me number (stands_for old)) out went turn

-- the agent received a message from another one, where a step that it makes has this number
abbrev pub Receives : State → State → ℕ → ℕ → Message → List Sent → List Sent → Turn → Type 0
Receives old new number from m out went turn = Acts old new (receive (csp_of old.problem) old.me number (stands_for old) from (message_of m)) out went turn

-- a nogood for agent i: its lowest variable is i, its values are of the domains, and each has a stamp above 0
pub record IsNogoodFor (p : Contents) (i : ℕ) (nogood : List Pair) (stamps : List ℕ) : Type 0 where
  pub lowest : option_map (λ (pair : Pair). pair.var) (slice_get nogood (length nogood - 1)) ≡ Some i
  pub values : (pair : Pair) → In pair nogood → In pair.value (domain (csp_of p) pair.var)
  pub stamped : AreStampsOf nogood stamps

-- a value that a higher agent tells: it is of that agent's domain, and its stamp is above 0
pub record IsToldBy (p : Contents) (i from : ℕ) (value : ℤ) (stamp : ℕ) : Type 0 where
  pub higher : from < i
  pub value_in : In value (domain (csp_of p) from)
  pub stamped : 0 < stamp

-- which messages may come to agent i, and from whom, before a step with this number is made
abbrev pub IsFit : Contents → ℕ → ℕ → ℕ → Message → Type 0
IsFit p i next from (Tell value stamp) = IsToldBy p i from value stamp
IsFit p i next from (Refuse nogood stamps step) = IsNogoodFor p i nogood stamps × (step < next)
IsFit p i next from AddLink = (i < from) × (from < length p.domains)

-- what is asked of an agent that is not spent, and of the message, before a step with this number is made
pub record CanReceive (s : State) (from next : ℕ) (m : Message) : Type 0 where
  pub stamp : s.stamp < 2 ^ 62
  pub fit : IsFit s.problem s.me next from m

-- an agent before its start
pub record IsFresh (p : Contents) (i : ℕ) (s : State) : Type 0 where
  pub agent : stands_for s ≡ fresh (csp_of p) i
  pub problem : s.problem ≡ p
  pub me : s.me ≡ i
  pub good : s.spent ≡ false
