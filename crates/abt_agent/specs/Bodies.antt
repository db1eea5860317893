-- What the inside of the code's agent stands for.
use Rattle.std.specs.Prelude.{◌≡◌, ℕ, ◌<◌, Bool, List, length, not, ◌&&◌, None, Result, IfOk}
use Rattle.dcsp_defs.specs.declared.nogood.Pair.{Pair}
use Rattle.dcsp_defs.specs.Words.{In, IsRising}
use Rattle.dcsp_defs.specs.Pairs.{value_at}
use Rattle.dcsp_defs.specs.declared.Step.{Step}
use Rattle.abt_defs.specs.Agents.{Agent, Message, Record, AddLink, Refuse, is_among, plain, values_in}
use Rattle.abt_defs.specs.Steps.{Outcome, fits, is_refused, receive, settle, take_or_refuse, to_each, unlinked}
use Rattle.law_agent.specs.OneAgent.{Proper, Sound}
use Rattle.law_agent.specs.Sources.{AreOfSteps}
use Rattle.dcsp_rule.specs.Problems.{Contents, csp_of, AreInDomains}
use Rattle.abt_reason.specs.Cached.{StandsFor}
use Rattle.abt_parts.specs.declared.message.Message.{Message as TheMessage}
use Rattle.abt_parts.specs.declared.message.Sent.{Sent}
use Rattle.abt_parts.specs.Messages.{with_stamps}
use Rattle.abt_parts.specs.Views.{view_of}
use Rattle.abt_parts.specs.declared.recorded.Recorded.{Recorded}
use Rattle.abt_parts.specs.Stores.{records_of}
use Rattle.abt_agent.specs.declared.knowledge.Knowledge.{Knowledge}
use Rattle.abt_agent.specs.declared.body.AgentBody.{AgentBody}
use Rattle.abt_agent.specs.declared.Turn.{Turn}
use Rattle.abt_agent.specs.declared.TurnKind.{TurnKind}
use Rattle.abt_agent.specs.Rights.{BringsOfStep, IsRightTurn}
use Rattle.abt_agent.specs.States.{State}
use Rattle.abt_agent.specs.Turns.{turn_with, IsTurn}
use Rattle.abt_parts.specs.Outgoing.{IsStampedView, Posts}
use Rattle.abt_marks.specs.Marks.{has_mark}

-- which agent of which problem it is
abbrev pub owner_of : Knowledge → Contents × ℕ
owner_of k = (k.problem.now, k.me)

-- the agent of the definitions that the code's agent stands for
abbrev pub agent_of : AgentBody → Agent
agent_of b = record {
  value = b.value;
  stamp = b.stamp;
  waits = b.waits;
  view = view_of b.known.view;
  recorded = records_of b.known.store;
  tells = λ k. is_among k b.tells.items;
  linked = has_mark b.linked;
}

-- the agent that callers see, spent or not
abbrev pub shown : AgentBody → Bool → State
shown b spent = record {
  problem = b.known.problem.now;
  me = b.known.me;
  value = b.value;
  stamp = b.stamp;
  waits = b.waits;
  view = b.known.view;
  store = b.known.store;
  tells = b.tells.items;
  linked = b.linked;
  spent = spent;
}

-- whether the agent keeps the nogood: it fits the view, and none that is kept refuses the agent's value of it
abbrev pub is_wanted : AgentBody → List Pair → Bool
is_wanted b nogood = fits b.known.me nogood (agent_of b) && not (is_refused b.known.me (records_of b.known.store) (value_at nogood b.known.me))

-- the message that brings the nogood with these stamps
abbrev pub nogood_in : Recorded → List ℕ → Message
nogood_in recorded stamps = Refuse recorded.step (with_stamps recorded.nogood stamps)

-- the link requests that it leads to
abbrev pub requests_for : AgentBody → Recorded → List ℕ → List (ℕ × Message)
requests_for b recorded stamps = to_each AddLink (unlinked b.known.me (plain (with_stamps recorded.nogood stamps)) (agent_of b))

-- the view has a slot for each higher agent, its values are of the domains and have stamps, and the reasons are those of view and store
pub record IsInStep (k : Knowledge) : Type 0 where
  pub me_exists : k.me < length k.problem.now.domains
  pub view : length k.view ≡ k.me
  pub domains : AreInDomains (csp_of k.problem.now) (values_in (view_of k.view))
  pub stamps : IsStampedView (view_of k.view)
  pub problem : k.reasons.problem ≡ k.problem.now
  pub agent : k.reasons.agent ≡ k.me
  pub stands : StandsFor k.reasons (values_in (view_of k.view)) k.store

-- what is known is in step, the table of links has a place for each higher agent, and the agents that are told rise and exist
pub record IsSized (b : AgentBody) : Type 0 where
  pub in_step : IsInStep b.known
  pub linked : length b.linked ≡ b.known.me
  pub tells : IsRising b.tells.items
  pub told_exist : (k : ℕ) → In k b.tells.items → k < length b.known.problem.now.domains

-- the nogood is one for this agent, with values of the domains
abbrev pub IsProper : Contents → ℕ → List Pair → Type 0
IsProper p me pairs = Proper (csp_of p) me pairs

-- all that are kept are so
abbrev pub AreProper : Contents → ℕ → List Recorded → Type 0
AreProper p me kept = (x : Record) → In x (records_of kept) → IsProper p me x.pairs

-- what always holds of the agent
abbrev pub IsSound : AgentBody → Type 0
IsSound b = Sound (csp_of b.known.problem.now) b.known.me (agent_of b)

-- the tables are as long as they must be, and the agent's own facts hold
pub record IsGood (b : AgentBody) : Type 0 where
  pub sized : IsSized b
  pub sound : IsSound b

-- the code did what the definitions' agent does
pub record Does (o : Outcome) (before after : AgentBody) (out went : List Sent) (turn : Turn) : Type 0 where
  pub agent : agent_of after ≡ o.agent
  pub sent : Posts out went o.sent
  pub turn_is : IsTurn (agent_of before) o turn
  pub sized : IsSized after

-- the code did what the definitions' agent does when it receives this message from another one, where a step that it makes has this number
abbrev pub DoesReceive : ℕ → ℕ → Message → AgentBody → AgentBody → List Sent → List Sent → Turn → Type 0
DoesReceive number from m before after out went turn = Does (receive (csp_of before.known.problem.now) before.known.me number (agent_of before) from m) before after out went turn

-- the same of settling, and of the refusal that a settling may be
abbrev pub DoesSettle : ℕ → AgentBody → AgentBody → List Sent → List Sent → Turn → Type 0
DoesSettle number before after out went turn = Does (settle (csp_of before.known.problem.now) before.known.me number (agent_of before)) before after out went turn

abbrev pub DoesRefuse : ℕ → AgentBody → AgentBody → List Sent → List Sent → Turn → Type 0
DoesRefuse number before after out went turn = Does (take_or_refuse (csp_of before.known.problem.now) before.known.me number (agent_of before) None) before after out went turn

-- a turn after this message is right after all steps from which what the agent keeps and what the message brings are
abbrev pub IsRightAfter : {E : Type 0} → AgentBody → TheMessage → Step → Result TurnKind E → Type 0
IsRightAfter b message step kind = (made : List Step) → AreOfSteps made (records_of b.known.store) → BringsOfStep made message → IfOk kind (λ k. IsRightTurn (csp_of b.known.problem.now) made (turn_with k step))
