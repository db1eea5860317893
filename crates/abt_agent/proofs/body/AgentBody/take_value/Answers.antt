use Rattle.std.proofs.Common.{◌+◌, false, ℕ, ℤ, List, Some, to_z, of_z, rules, sym, subst, w64, SFits}
use Rattle.std.proofs.lemmas.Int.{to_z-of_z}
use Rattle.dcsp_rule.specs.Problems.{csp_of}
use Rattle.abt_defs.specs.Agents.{Tell}
use Rattle.abt_defs.specs.Steps as steps
use Rattle.abt_agent.specs.declared.Turn.TheVariants.{Announced}
use Rattle.abt_agent.specs.Bodies.{agent_of, Does}
use Rattle.abt_parts.specs.Outgoing.{Posts}
use Rattle.abt_agent.proofs.Takes.{takes}
use Rattle.abt_agent.proofs.body.AgentBody.take_value.Goals as goal

pub returns-clause-does : goal.returns-clause-does
returns-clause-does c made =
    let b = c.args.self.now in
    let fits : SFits w64 c.args.value = search rules in
    let same = to_z-of_z w64 c.args.value fits in
    subst (λ (z : ℤ). Does (steps.take_value (csp_of b.known.problem.now) (agent_of b) c.args.value) b (record b { value = Some z; stamp = b.stamp + 1; waits = false }) c.args.out.now c.tell_all.new.out Announced) (sym same)
    (takes b c.args.value c.args.out.now c.tell_all.new.out c.requires.sized
    (subst (λ (z : ℤ). Posts c.args.out.now c.tell_all.new.out (steps.to_each (Tell (record { value = z; stamp = b.stamp + 1 })) b.tells.items)) same
    (subst (λ (ts : List ℕ). Posts c.args.out.now c.tell_all.new.out (steps.to_each (Tell (record { value = to_z w64 (of_z w64 c.args.value); stamp = b.stamp + 1 })) ts)) c.deref.ensures.value c.in_ok-tell_all.ensures)))
