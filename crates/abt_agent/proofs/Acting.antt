-- What callers see of an agent that did something.
use Rattle.std.proofs.Common.{◌≡◌, ℕ, Bool, false, List, ap}
use Rattle.abt_defs.specs.Steps.{Outcome}
use Rattle.dcsp_rule.specs.Problems.{Contents}
use Rattle.abt_parts.specs.declared.message.Sent.{Sent}
use Rattle.abt_agent.specs.declared.body.AgentBody.{AgentBody}
use Rattle.abt_agent.specs.declared.Turn.{Turn}
use Rattle.abt_agent.specs.Bodies.{owner_of, Does}
use Rattle.abt_agent.specs.States.{State, Acts}

abbrev pub state_of : AgentBody → Bool → State
state_of b spent = record {
  problem = b.known.problem.now;
  me = b.known.me;
  value = b.value;
  stamp = b.stamp;
  waits = b.waits;
  view = b.known.view;
  store = b.known.store;
  tells = b.tells.items;
  linked = b.linked;
  spent = spent;
}

pub acts : (o : Outcome) (before after : AgentBody) (spent : Bool) (out went : List Sent) (turn : Turn) → owner_of after.known ≡ owner_of before.known → spent ≡ false → Does o before after out went turn
    → Acts (state_of before spent) (state_of after spent) o out went turn
acts o before after spent out went turn e f d = record {
  agent = d.agent;
  sent = d.sent;
  turn_is = d.turn_is;
  problem = ap (λ (x : Contents × ℕ). x.0) e;
  me = ap (λ (x : Contents × ℕ). x.1) e;
  good = f;
}
