-- What a message that comes does.
use Rattle.std.proofs.Common.{◌≡◌, ℕ, ◌+◌, ◌<◌, Bool, true, false, cond, not, ◌&&◌, List, length, refl, sym, ap, subst, ◌∙◌, append-nil, Result, Ok, Err}
use Rattle.std.specs.Prelude.{IfOk, OnOk}
use Rattle.std.specs.declared.alloc.AllocError.{AllocError as Memory}
use Rattle.dcsp_defs.specs.declared.nogood.Pair.{Pair}
use Rattle.dcsp_defs.specs.Words.{In, update}
use Rattle.dcsp_defs.specs.Csp.{Csp, domain}
use Rattle.abt_defs.specs.Agents.{Agent, Message, Refuse, Stamped, plain, AddLink}
use Rattle.abt_defs.specs.Steps as steps
use Rattle.abt_defs.specs.Steps.{Outcome}
use Rattle.law_agent.specs.OneAgent.{Proper, Sound}
use Rattle.law_agent.specs.Staying.{AgentsStaySound, StaysSound, OnlyLearns}
use Rattle.dcsp_rule.specs.Problems.{Contents, csp_of}
use Rattle.abt_parts.specs.declared.message.Sent.{Sent}
use Rattle.abt_parts.specs.Messages.{with_stamps}
use Rattle.abt_parts.specs.Outgoing.{Posts}
use Rattle.abt_parts.proofs.Posting.{posts_then}
use Rattle.abt_agent.specs.declared.knowledge.Knowledge.{Knowledge}
use Rattle.abt_agent.specs.declared.body.AgentBody.{AgentBody}
use Rattle.abt_agent.specs.declared.Turn.{Turn}
use Rattle.abt_agent.specs.declared.Turn.TheVariants.{Quiet, Announced, Derived, Empty}
use Rattle.abt_agent.specs.Turns.{IsTurn}
use Rattle.abt_agent.specs.Bodies.{agent_of, owner_of, IsSized, IsGood, Does, DoesReceive}
use Rattle.abt_parts.proofs.Lists.{plain-with_stamps}

pub ok_then : {X E : Type 0} (r : Result X E) {P Q : X → Type 0} → ((x : X) → P x → Q x) → IfOk r P → IfOk r Q
ok_then (Ok x) f h = f x h
ok_then (Err e) f h = h

-- beside what holds on every answer
pub ok_both : {X E : Type 0} (r : Result X E) {P Q : X → Type 0} {F : Type 0} → (F → (x : X) → P x → Q x) → OnOk r F → IfOk r P → IfOk r Q
ok_both (Ok x) f o h = f o x h
ok_both (Err e) f o h = h

-- ---- the agent's own facts hold after it

-- the same owner, the same facts
pub moved_sound : (k l : Knowledge) (a : Agent) → owner_of l ≡ owner_of k → Sound (csp_of k.problem.now) k.me a → Sound (csp_of l.problem.now) l.me a
moved_sound k l a e h = subst (λ (x : Contents × ℕ). Sound (csp_of x.0) x.1 a) (sym e) h

-- what the agent does leaves what always holds of it
stays : (before : AgentBody) → IsGood before → ((p : Csp) → AgentsStaySound p) → StaysSound (csp_of before.known.problem.now) before.known.me (agent_of before)
stays before h law = law (csp_of before.known.problem.now) before.known.me h.sized.in_step.me_exists (agent_of before) h.sound

-- a body of the same owner, of which that holds
still_good : (before after : AgentBody) (a : Agent) → owner_of after.known ≡ owner_of before.known → IsSized after → agent_of after ≡ a → Sound (csp_of before.known.problem.now) before.known.me a → IsGood after
still_good before after a e sized f h = record {
  sized = sized;
  sound = moved_sound before.known after.known (agent_of after) e (subst (Sound (csp_of before.known.problem.now) before.known.me) (sym f) h);
}

pub good_learned : ((p : Csp) → AgentsStaySound p) → (from : ℕ) (s : Stamped) (before after : AgentBody) → IsGood before → owner_of after.known ≡ owner_of before.known → IsSized after → from < before.known.me → In s.value (domain (csp_of before.known.problem.now) from)
    → agent_of after ≡ steps.learn from s (agent_of before) → IsGood after
good_learned law from s before after h e sized higher there a =
    still_good before after (steps.learn from s (agent_of before)) e sized a ((stays before h law).learned from s higher there)

pub good_heeded : ((p : Csp) → AgentsStaySound p) → (step : ℕ) (nogood : List Pair) (stamps : List ℕ) (before after : AgentBody) → IsGood before → owner_of after.known ≡ owner_of before.known → IsSized after → Proper (csp_of before.known.problem.now) before.known.me nogood
    → agent_of after ≡ steps.heed before.known.me step (with_stamps nogood stamps) (agent_of before) → IsGood after
good_heeded law step nogood stamps before after h e sized proper a =
    still_good before after (steps.heed before.known.me step (with_stamps nogood stamps) (agent_of before)) e sized a
    ((stays before h law).heeded step (with_stamps nogood stamps) (subst (Proper (csp_of before.known.problem.now) before.known.me) (sym (plain-with_stamps nogood stamps)) proper))

pub good_settled : {X : Type 0} (turn_of : X → Turn) → ((p : Csp) → AgentsStaySound p) → (number : ℕ) (before after : AgentBody) (out went : List Sent) (r : Result X Memory) → IsGood before → owner_of after.known ≡ owner_of before.known
    → IfOk r (λ x. Does (steps.settle (csp_of before.known.problem.now) before.known.me number (agent_of before)) before after out went (turn_of x)) → OnOk r (IsGood after)
good_settled turn_of law number before after out went (Ok x) h e d =
    still_good before after (steps.settle (csp_of before.known.problem.now) before.known.me number (agent_of before)).agent e d.sized d.agent ((stays before h law).settled number)
good_settled turn_of law number before after out went (Err f) h e d = tt

pub good_linked : {X : Type 0} (turn_of : X → Turn) → ((p : Csp) → AgentsStaySound p) → (number from : ℕ) (before after : AgentBody) (out went : List Sent) (r : Result X Memory) → IsGood before → from < length before.known.problem.now.domains → owner_of after.known ≡ owner_of before.known
    → IfOk r (λ x. DoesReceive number from AddLink before after out went (turn_of x)) → OnOk r (IsGood after)
good_linked turn_of law number from before after out went (Ok x) h l e d =
    still_good before after (record (agent_of before) { tells = update (agent_of before).tells from true }) e d.sized d.agent ((stays before h law).linked from l)
good_linked turn_of law number from before after out went (Err f) h l e d = tt

-- ---- what follows

turn_same : (a b : Agent) (sent : List (ℕ × Message)) (o : Outcome) (turn : Turn) → a.stamp ≡ b.stamp → IsTurn a o turn → IsTurn b (steps.first_sent sent o) turn
turn_same a b sent o Quiet e h = (h.0, h.1 ∙ e)
turn_same a b sent o Announced e h = (h.0, h.1 ∙ ap (λ z. z + 1) e)
turn_same a b sent o (Derived s) e h = h
turn_same a b sent o (Empty s) e h = h

-- messages sent before settling come first
after_first : (o : Outcome) (before mid after : AgentBody) (out first went : List Sent) (sent : List (ℕ × Message)) (turn : Turn)
    → mid.stamp ≡ before.stamp → Posts out first sent → Does o mid after first went turn
    → Does (steps.first_sent sent o) before after out went turn
after_first o before mid after out first went sent turn e f d = record {
  agent = d.agent;
  sent = posts_then out first went sent o.sent f d.sent;
  turn_is = turn_same (agent_of mid) (agent_of before) sent o turn e d.turn_is;
  sized = d.sized;
}

-- the agent heeds the nogood, and goes on waiting
stays_idle : (before after : AgentBody) (b : Agent) (out went : List Sent) (sent : List (ℕ × Message))
    → agent_of after ≡ b → after.stamp ≡ before.stamp → Posts out went sent → IsSized after
    → Does (steps.first_sent sent (steps.stay b)) before after out went Quiet
stays_idle before after b out went sent e f m sized = record {
  agent = e;
  sent = subst (Posts out went) (sym (append-nil sent)) m;
  turn_is = (refl, ap (λ (z : Agent). z.stamp) (sym e) ∙ f);
  sized = sized;
}

module _ (learns : (i : ℕ) (a : Agent) → OnlyLearns i a) (number from step : ℕ) (nogood ps : List Pair) (stamps : List ℕ) (before mid : AgentBody) (out first : List Sent)
    (p : ps ≡ nogood) (heeds : agent_of mid ≡ steps.heed before.known.me step (with_stamps nogood stamps) (agent_of before))
    (asks : Posts out first (steps.to_each AddLink (steps.unlinked before.known.me (plain (with_stamps nogood stamps)) (agent_of before)))) where
  abbrev csp : Csp
  csp = csp_of before.known.problem.now

  abbrev me : ℕ
  me = before.known.me

  abbrev a : Agent
  a = agent_of before

  abbrev heeded : Agent
  heeded = steps.heed me step (with_stamps nogood stamps) a

  abbrev requests : List (ℕ × Message)
  requests = steps.to_each AddLink (steps.unlinked me (plain (with_stamps nogood stamps)) a)

  -- what a nogood does, by whether the agent goes on waiting
  idle_is : (idle : Bool) → idle ≡ (a.waits && not (steps.is_news me (with_stamps ps stamps) a))
      → steps.first_sent requests (cond idle (steps.stay heeded) (steps.settle csp me number heeded)) ≡ steps.receive csp me number a from (Refuse step (with_stamps nogood stamps))
  idle_is idle e =
      ap (λ b. steps.first_sent requests (cond b (steps.stay heeded) (steps.settle csp me number heeded)))
      (e ∙ ap (λ z. a.waits && not (steps.is_news me (with_stamps z stamps) a)) p)

  pub same_stamp : mid.stamp ≡ before.stamp
  same_stamp = ap (λ (z : Agent). z.stamp) heeds ∙ (learns me a).stamp step (with_stamps nogood stamps)

  pub refused_idle : true ≡ (a.waits && not (steps.is_news me (with_stamps ps stamps) a)) → IsSized mid
      → DoesReceive number from (Refuse step (with_stamps nogood stamps)) before mid out first Quiet
  refused_idle e sized =
      subst (λ o. Does o before mid out first Quiet) (idle_is true e)
      (stays_idle before mid heeded out first requests heeds same_stamp asks sized)

  pub refused_settles : (after : AgentBody) (went : List Sent) (turn : Turn) → owner_of mid.known ≡ owner_of before.known → false ≡ (a.waits && not (steps.is_news me (with_stamps ps stamps) a))
      → Does (steps.settle (csp_of mid.known.problem.now) mid.known.me number (agent_of mid)) mid after first went turn
      → DoesReceive number from (Refuse step (with_stamps nogood stamps)) before after out went turn
  refused_settles after went turn o e d =
      subst (λ o. Does o before after out went turn) (idle_is false e)
      (after_first (steps.settle csp me number heeded) before mid after out first went requests turn same_stamp asks
      (subst (λ z. Does (steps.settle csp me number z) mid after first went turn) heeds
      (subst (λ (x : Contents × ℕ). Does (steps.settle (csp_of x.0) x.1 number (agent_of mid)) mid after first went turn) o d)))
