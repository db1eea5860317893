-- A value is taken, and told.
use Rattle.std.proofs.Common.{ℕ, ℤ, ◌+◌, false, List, length, Some, refl, sym, subst}
use Rattle.abt_defs.specs.Agents.{Tell}
use Rattle.abt_defs.specs.Steps as steps
use Rattle.dcsp_rule.specs.Problems.{csp_of}
use Rattle.abt_parts.specs.declared.message.Sent.{Sent}
use Rattle.abt_agent.specs.declared.body.AgentBody.{AgentBody}
use Rattle.abt_agent.specs.declared.Turn.TheVariants.{Announced}
use Rattle.abt_agent.specs.Bodies.{agent_of, IsSized, Does}
use Rattle.abt_parts.specs.Outgoing.{Posts}
use Rattle.abt_agent.proofs.Rising.{filter_among}

pub takes : (b : AgentBody) (v : ℤ) (out went : List Sent) → IsSized b → Posts out went (steps.to_each (Tell (record { value = v; stamp = b.stamp + 1 })) b.tells.items)
    → Does (steps.take_value (csp_of b.known.problem.now) (agent_of b) v) b (record b { value = Some v; stamp = b.stamp + 1; waits = false }) out went Announced
takes b v out went sized sent = record {
  agent = refl;
  sent = subst (λ (ts : List ℕ). Posts out went (steps.to_each (Tell (record { value = v; stamp = b.stamp + 1 })) ts)) (sym (filter_among b.tells.items (length b.known.problem.now.domains) sized.tells sized.told_exist)) sent;
  turn_is = (refl, refl);
  sized = record { in_step = sized.in_step; linked = sized.linked; tells = sized.tells; told_exist = sized.told_exist };
}
