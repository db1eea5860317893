use Rattle.std.proofs.Common.{refl, rules, w64, SFits, sym, subst, List, ℕ, ℤ}
use Rattle.std.specs.Prelude.{IfOk}
use Rattle.abt_defs.specs.Agents as agents
use Rattle.abt_defs.specs.Steps as steps
use Rattle.dcsp_rule.specs.Problems.{csp_of}
use Rattle.abt_parts.specs.declared.message.Message.{Message}
use Rattle.abt_parts.specs.declared.message.Sent.{Sent}
use Rattle.abt_parts.specs.Messages.{message_of, with_stamps}
use Rattle.abt_agent.specs.declared.TurnKind.{TurnKind}
use Rattle.abt_agent.specs.Turns.{turn_with}
use Rattle.abt_agent.specs.Bodies.{agent_of, Does}
use Rattle.abt_agent.specs.Rights.{BringsOfStep}
use Rattle.abt_agent.specs.States.{IsFit}
use Rattle.abt_agent.proofs.Receives.{ok_then, ok_both}
use Rattle.abt_agent.proofs.Rights.{told_right, refused_right, linked_right}
use Rattle.abt_agent.proofs.Proper.{proper_nogood}
use Rattle.std.proofs.lemmas.Int.{to_z-of_z}
use Rattle.abt_agent.proofs.body.AgentBody.receive.Goals as goal

pub returns-in-Refuse-clause-does : goal.returns-in-Refuse-clause-does
returns-in-Refuse-clause-does c =
    let received = λ (went : List Sent) (m : agents.Message). IfOk c.receive_refuse-turn.result (λ (kind : TurnKind). Does (steps.receive (csp_of c.args.self.now.known.problem.now) c.args.self.now.known.me c.args.number (agent_of c.args.self.now) c.args.from m) c.args.self.now c.receive_refuse-turn.new.self c.args.out.now went (turn_with kind c.receive_refuse-turn.new.made)) in
    subst (λ (m : Message). received c.give_back.new.self (message_of m)) (sym c.in-Refuse.is)
    (subst (λ (went : List Sent). received went (agents.Refuse c.in-Refuse.step (with_stamps c.in-Refuse.nogood c.in-Refuse.stamps))) (sym c.give_back.ensures)
    (subst (λ (z : List ℕ). received c.receive_refuse-turn.new.out (agents.Refuse c.in-Refuse.step (with_stamps c.in-Refuse.nogood z))) c.items.ensures (c.receive_refuse-turn.ensures.does c.args.from)))

pub returns-in-AddLink-clause-does : goal.returns-in-AddLink-clause-does
returns-in-AddLink-clause-does c =
    subst (λ (m : Message). IfOk c.receive_link.result (λ (kind : TurnKind). Does (steps.receive (csp_of c.args.self.now.known.problem.now) c.args.self.now.known.me c.args.number (agent_of c.args.self.now) c.args.from (message_of m)) c.args.self.now c.receive_link.new.self c.args.out.now c.receive_link.new.out (turn_with kind c.args.made.now))) (sym c.in-AddLink.is)
    (c.receive_link.ensures.does c.args.number c.args.made.now)

pub returns-in-Tell-clause-right : goal.returns-in-Tell-clause-right
returns-in-Tell-clause-right c made rooted brings =
    let p = c.args.self.now.known.problem.now in
    let a = agent_of c.args.self.now in
    let fit = subst (λ (m : Message). IsFit p c.args.self.now.known.me c.args.number c.args.from m) c.in-Tell.is c.requires.fit in
    let in_range : SFits w64 c.in-Tell.value = search rules in
    let does = subst (λ (z : ℤ). IfOk c.receive_tell.result (λ (kind : TurnKind). Does (steps.receive (csp_of p) c.args.self.now.known.me c.args.number a c.args.from (agents.Tell (record { value = z; stamp = c.in-Tell.stamp }))) c.args.self.now c.receive_tell.new.self c.args.out.now c.receive_tell.new.out (turn_with kind c.receive_tell.new.made)))
    (to_z-of_z w64 c.in-Tell.value in_range) c.receive_tell.ensures.does in
    ok_then c.receive_tell.result
    (λ kind d. told_right (csp_of p) made c.args.self.now.known.me a (c.agents_step_right.ensures (csp_of p) c.denotes_csp.ensures.csp c.args.self.now.known.me c.requires.good.sized.in_step.me_exists made a c.requires.good.sound rooted) c.args.number (turn_with kind c.receive_tell.new.made)
    c.args.from (record { value = c.in-Tell.value; stamp = c.in-Tell.stamp }) fit.higher fit.value_in d.turn_is)
    does

pub returns-in-Refuse-clause-right : goal.returns-in-Refuse-clause-right
returns-in-Refuse-clause-right c made rooted brings =
    let p = c.args.self.now.known.problem.now in
    let a = agent_of c.args.self.now in
    let fit = subst (λ (m : Message). IsFit p c.args.self.now.known.me c.args.number c.args.from m) c.in-Refuse.is c.requires.fit in
    let of_step = subst (λ (m : Message). BringsOfStep made m) c.in-Refuse.is brings in
    ok_both c.receive_refuse-turn.result
    (λ up kind d. refused_right (csp_of p) made c.args.self.now.known.me a (c.agents_step_right.ensures (csp_of p) c.denotes_csp.ensures.csp c.args.self.now.known.me c.requires.good.sized.in_step.me_exists made a c.requires.good.sound rooted) c.args.number (turn_with kind c.receive_refuse-turn.new.made)
    c.args.from c.in-Refuse.step c.in-Refuse.nogood c.items.result.now (proper_nogood p c.args.self.now.known.me c.in-Refuse.nogood c.in-Refuse.stamps c.requires.good.sized.in_step.me_exists up fit.0) of_step d.turn_is)
    c.receive_refuse-turn.ensures.rising (c.receive_refuse-turn.ensures.does c.args.from)

pub returns-in-AddLink-clause-right : goal.returns-in-AddLink-clause-right
returns-in-AddLink-clause-right c made rooted brings =
    let p = c.args.self.now.known.problem.now in
    let a = agent_of c.args.self.now in
    ok_then c.receive_link.result
    (λ kind d. linked_right (csp_of p) made c.args.self.now.known.me a (c.agents_step_right.ensures (csp_of p) c.denotes_csp.ensures.csp c.args.self.now.known.me c.requires.good.sized.in_step.me_exists made a c.requires.good.sound rooted) c.args.number (turn_with kind c.args.made.now)
    c.args.from (steps.receive (csp_of p) c.args.self.now.known.me c.args.number a c.args.from agents.AddLink) refl d.turn_is)
    (c.receive_link.ensures.does c.args.number c.args.made.now)
