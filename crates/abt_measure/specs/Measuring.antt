-- All that is counted in a run.
use Rattle.std.specs.Prelude.{◌≡◌, ℕ, ◌+◌, ◌-◌, List, [], ◌∷◌, ◌++◌, map, length, max, sum_by, Option, Some, None}
use Rattle.dcsp_defs.specs.Csp.{Csp}
use Rattle.dcsp_rule.specs.Problems.{csp_of}
use Rattle.abt_defs.specs.Agents.{Agent, Message}
use Rattle.abt_defs.specs.Network.{Network, run, start}
use Rattle.abt_defs.specs.Events.{Act, acts, later_acts, start_acts}
use Rattle.abt_defs.specs.Checks.{settles_on}
use Rattle.abt_defs.specs.Clocks.{all_checks, constraints_alone, messages_alone}
use Rattle.abt_defs.specs.Measures.{messages_got, most_in_transit, most_recorded, recorded_in}
use Rattle.abt_network.specs.Standing.{reached, NetworkState, StandsAt}
use Rattle.abt_measure.specs.declared.row.Row.{Row}
use Rattle.abt_parts.specs.declared.message.SentTo.{SentTo}
use Rattle.abt_parts.specs.Messages.{kind_of, told_sent}
use Rattle.abt_measure.specs.declared.counts.Came.{Came}
use Rattle.abt_measure.specs.declared.delivery.Coming.{Coming}
use Rattle.abt_measure.specs.Clocks.{ClockState}
use Rattle.abt_measure.specs.Counting.{AreRows, IsClock}

-- what callers see
pub record MeasureState : Type 0 where
  pub rows : List Row
  pub all : ClockState  -- the clocks of all checks, of constraints alone, of messages alone
  pub constraints : ClockState
  pub messages : ClockState
  pub sent : ℕ  -- how many messages were sent, and received
  pub got : ℕ
  pub most_in_transit : ℕ
  pub recorded : ℕ
  pub most_recorded : ℕ

-- rows and clocks are of as many agents
pub record AreAlike (n : ℕ) (all constraints messages : ClockState) : Type 0 where
  pub all_long : length all.agents ≡ n
  pub constraints_long : length constraints.agents ≡ n
  pub messages_long : length messages.agents ≡ n

-- how many messages came
abbrev pub received_in : Option Came → ℕ
received_in None = 0
received_in (Some came) = 1

-- rows, clocks and messages are those of these acts
pub record IsCounted (p : Csp) (acts : List Act) (m : MeasureState) : Type 0 where
  pub rows : AreRows p acts m.rows
  pub all : IsClock p all_checks acts m.all
  pub constraints : IsClock p constraints_alone acts m.constraints
  pub messages : IsClock p messages_alone acts m.messages
  pub sent : m.sent ≡ sum_by (λ (a : Act). length a.sent) acts
  pub got : m.got ≡ sum_by (λ (a : Act). length (messages_got a)) acts

-- the same, of the acts of a run of this network's problem
abbrev pub CountsIn : NetworkState → List Act → MeasureState → Type 0
CountsIn s acts m = IsCounted (csp_of s.problem) acts m

-- no event was made
pub record HasNoEvents (m : MeasureState) : Type 0 where
  pub most_in_transit : m.most_in_transit ≡ 0
  pub recorded : m.recorded ≡ 0
  pub most_recorded : m.most_recorded ≡ 0

-- what is told of events is as before
pub record SameEvents (old new : MeasureState) : Type 0 where
  pub most_in_transit : new.most_in_transit ≡ old.most_in_transit
  pub recorded : new.recorded ≡ old.recorded
  pub most_recorded : new.most_recorded ≡ old.most_recorded

-- an event is over, in which an agent had recorded so many nogoods before, and has so many then
pub record EndsEvent (before after : ℕ) (old new : MeasureState) : Type 0 where
  pub rows : new.rows ≡ old.rows
  pub all : new.all ≡ old.all
  pub constraints : new.constraints ≡ old.constraints
  pub messages : new.messages ≡ old.messages
  pub sent : new.sent ≡ old.sent
  pub got : new.got ≡ old.got
  pub most_in_transit : new.most_in_transit ≡ max old.most_in_transit (old.sent - old.got)
  pub recorded : new.recorded ≡ old.recorded - before + after
  pub most_recorded : new.most_recorded ≡ max old.most_recorded (old.recorded - before + after)

-- the measures are those of the run under these choices
pub record IsMeasured (p : Csp) (choices : List ℕ) (m : MeasureState) : Type 0 where
  pub counted : IsCounted p (acts p choices) m
  pub transit : m.most_in_transit ≡ most_in_transit (start_acts p) (later_acts p choices (start p))
  pub recorded : m.recorded ≡ recorded_in p (run p choices (start p))
  pub most : m.most_recorded ≡ most_recorded p choices (start p)

-- what is seen of a delivery before it is made: the receiver i has this state, and this message comes from k
pub record IsComing (a : Agent) (k i : ℕ) (m : Message) (coming : Coming) : Type 0 where
  pub from : coming.from ≡ k
  pub kind : coming.kind ≡ kind_of m
  pub settles : coming.settles ≡ settles_on i a k m
  pub own : coming.own ≡ a.value
  pub before : coming.before ≡ length a.recorded

-- the delivery was made by this act of agent i, which leaves this network
pub record IsNext (a : Act) (i : ℕ) (coming : Coming) (sent : List SentTo) (net : Network) : Type 0 where
  pub agent : a.agent ≡ i
  pub message : Message
  pub came : a.came ≡ Some (coming.from, message)
  pub saw : IsComing a.before coming.from i message coming
  pub after : net.agents i ≡ a.after
  pub sent_is : sent ≡ map told_sent a.sent

-- the act is counted, and its event is over
pub record CountsNext (p : Csp) (acts : List Act) (a : Act) (before : ℕ) (old new : MeasureState) : Type 0 where
  pub counted : IsCounted p (acts ++ a ∷ []) new
  pub most_in_transit : new.most_in_transit ≡ max old.most_in_transit (new.sent - new.got)
  pub recorded : new.recorded ≡ old.recorded - before + length a.after.recorded
  pub most_recorded : new.most_recorded ≡ max old.most_recorded new.recorded

-- some choices lead to where the network stands
pub record IsOnRun (s : NetworkState) : Type 0 where
  pub choices : List ℕ
  pub stands : StandsAt s (reached s choices)

-- the same, of the run of this network's problem
abbrev pub MeasuresIn : NetworkState → List ℕ → MeasureState → Type 0
MeasuresIn s choices m = IsMeasured (csp_of s.problem) choices m
