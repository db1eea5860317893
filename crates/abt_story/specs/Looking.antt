-- What the code looks at to tell an event.
use Rattle.std.specs.Prelude.{◌≡◌, ℕ, ℤ, List, map, flat_map, length, Option, Some, None, option_copied, unwrap_or, pos}
use Rattle.dcsp_defs.specs.declared.Reason.{Reason}
use Rattle.dcsp_defs.specs.Csp.{Csp, domain}
use Rattle.dcsp_rule.specs.Problems.{csp_of}
use Rattle.dcsp_order.specs.Told.{number_told}
use Rattle.abt_defs.specs.Agents.{Agent, Message, View}
use Rattle.abt_defs.specs.Events.{Act}
use Rattle.abt_defs.specs.Runs as runs
use Rattle.abt_defs.specs.Network.{Network}
use Rattle.law_runs.specs.Starts.{first_act, first_outcome}
use Rattle.abt_parts.specs.Messages.{told_sent}
use Rattle.abt_parts.specs.declared.recorded.Recorded.{Recorded}
use Rattle.abt_parts.specs.declared.message.SentTo.{SentTo}
use Rattle.abt_parts.specs.declared.message.MessageKind.{MessageKind}
use Rattle.abt_parts.specs.declared.message.MessageKind.TheVariants as kinds
use Rattle.abt_reason.specs.Causes.{reason_for}
use Rattle.abt_agent.specs.States.{State, stands_for}
use Rattle.abt_defs.specs.Agents.{known}
use Rattle.abt_network.specs.Standing.{cargo_in}
use Rattle.abt_network.specs.declared.Delivery.{Delivery}
use Rattle.abt_session.specs.Ordering.{order_in}
use Rattle.abt_session.specs.declared.ordered.Ordered.{Ordered}
use Rattle.abt_story.specs.declared.before.Before.{Before}
use Rattle.abt_story.specs.declared.before.Known.{Known}
use Rattle.abt_story.specs.declared.deed.Came.{Came}
use Rattle.abt_story.specs.declared.deed.Deed.{Deed}
use Rattle.abt_story.specs.declared.texts.Who.{Who}
use Rattle.abt_story.specs.Facts.{Fact, Sends}
use Rattle.abt_story.specs.Numbers.{facts_told}
use Rattle.abt_story.specs.Telling.{came_with, delivery_lines, enters, facts, first_step, named_in, reason_before, sends, stamp_in, step_between, steps_of}
use Rattle.abt_story.specs.Texts.{facts_text, lines_text}

-- ---- before an event

-- the stamp that a view has of k
abbrev pub known_at : View → ℕ → Known
known_at view k = record { var = k; stamp = stamp_in (view k) }

-- what an agent's view has of these
abbrev pub known_by : State → List ℕ → List Known
known_by s vars = map (known_at (stands_for s).view) vars

-- it is what the event of agent i needs of it as it is before, to which this comes
pub record IsSeen (order : Option (List ℕ)) (p : Csp) (i : ℕ) (came : Option (ℕ × Message)) (a : Agent) (before : Before) : Type 0 where
  pub known : before.known.items ≡ map (known_at a.view) (named_in order came)
  pub kept : before.kept.items ≡ steps_of a
  pub reasons : before.reasons.items ≡ map (reason_before p i came a) (domain p i)
  pub stamp : before.stamp ≡ a.stamp

-- the same, of the agent as the code has it
abbrev pub IsSeenBy : Option (List ℕ) → State → Act → Before → Type 0
IsSeenBy order s a before = IsSeen order (csp_of s.problem) s.me a.came a.before before

-- the same, of an agent of the problem, which is told in the numbers of its order
abbrev pub IsSeenOf : Ordered → ℕ → Act → Before → Type 0
IsSeenOf model i a before = IsSeen (order_in model) (csp_of model.problem.now) i a.came a.before before

-- ---- after it

-- the lines of these facts, each told in the model's own numbers
abbrev pub told_of : Who → Option (List ℕ) → List Fact → List ℕ
told_of who order facts = facts_text who.event who.agent (facts_told order facts)

-- the steps of these nogoods
abbrev pub steps_in : List Recorded → List ℕ
steps_in kept = map (λ (x : Recorded). x.step) kept

-- what entered the view
abbrev pub entered : List Known → View → List Fact
entered known view = flat_map (λ (x : Known). enters x.var x.stamp (view x.var)) known

-- the first reason against a value of the agent
abbrev pub reason_in : State → ℤ → Option Reason
reason_in s v = reason_for s.problem s.me (known (stands_for s)) s.store v

-- the cargo of a message of this kind, from an agent that has this value then and has made this step, if it made one
abbrev pub cargo_by : MessageKind → Option ℤ → Option ℕ → runs.Cargo
cargo_by kinds.Tell value made = runs.Tell (unwrap_or value (pos 0))
cargo_by kinds.Refuse value made = runs.Refuse (unwrap_or made 0)
cargo_by kinds.AddLink value made = runs.AddLink

abbrev pub sent_facts : List SentTo → Option ℤ → Option ℕ → List Fact
sent_facts sent value made = map (λ (x : SentTo). Sends x.to (cargo_by x.kind value made)) sent

-- what came
abbrev pub came_in : Option Came → Option (ℕ × runs.Cargo)
came_in None = None
came_in (Some came) = Some (came.from, cargo_in came.cargo)

-- the agent, which is so after the act, did this in it
pub record IsDone (a : Act) (deed : Deed) (s : State) : Type 0 where
  pub agent : deed.who.agent ≡ number_told (option_copied deed.order) a.agent
  pub me : s.me ≡ a.agent
  pub came : came_in deed.came ≡ came_with a.came
  pub after : stands_for s ≡ a.after
  pub sent : sent_facts deed.sent.now a.after.value deed.made ≡ sends a.sent

-- a delivery was told, before which so many steps were made: this act of its receiver leads from the one network to the other
pub record IsMade (a : Act) (d : Delivery) (steps : ℕ) (told : List SentTo) (old net : Network) : Type 0 where
  pub agent : a.agent ≡ d.to
  pub came : came_with a.came ≡ Some (d.from, cargo_in d.cargo)
  pub after : net.agents d.to ≡ a.after
  pub steps_is : steps ≡ length old.steps
  pub told_is : told ≡ map told_sent a.sent
  pub carries : sent_facts (map told_sent a.sent) a.after.value (step_between old net) ≡ sends a.sent

-- the lines of the delivery that a choice makes in a network
abbrev pub delivery_text : Ordered → ℕ → Network → List ℕ
delivery_text model choice net = lines_text (delivery_lines (order_in model) (csp_of model.problem.now) choice net)

-- the lines of a delivery to agent i that led from the one network to the other by this act
abbrev pub made_text : Ordered → ℕ → Act → Network → Network → List ℕ
made_text model i a old net =
    let order = order_in model in facts_text net.deliveries (number_told order i) (facts_told order (facts order (csp_of model.problem.now) (step_between old net) a))

-- it is told a value
abbrev pub tell_to : ℕ → SentTo
tell_to k = record { to = k; kind = kinds.Tell }

-- the lines of agent i in the start
abbrev pub first_text : Option (List ℕ) → Csp → ℕ → List ℕ
first_text order p i = facts_text 0 (number_told order i) (facts_told order (facts order p (first_step (first_outcome p i).agent) (first_act p i)))
