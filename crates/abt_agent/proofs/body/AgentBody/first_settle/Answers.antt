use Rattle.std.proofs.Common.{subst, sym}
use Rattle.dcsp_rule.specs.Problems.{csp_of}
use Rattle.abt_agent.specs.Bodies.{agent_of, Does}
use Rattle.abt_agent.proofs.Fresh.{same_number, first_turn}
use Rattle.abt_defs.specs.Steps as steps
use Rattle.abt_agent.specs.Rights.{IsRightTurn}
use Rattle.abt_agent.specs.Turns.{turn_with, IsFirstTurn}
use Rattle.abt_agent.proofs.Rights.{settle_right}
use Rattle.abt_defs.specs.Agents.{Agent, Record}
use Rattle.dcsp_defs.specs.Words.{In}
use Rattle.abt_agent.proofs.body.AgentBody.first_settle.Goals as goal

pub returns-clause-does : goal.returns-clause-does
returns-clause-does c number =
    subst (λ turn. Does (steps.settle (csp_of c.args.self.now.known.problem.now) c.args.self.now.known.me number (agent_of c.args.self.now)) c.args.self.now c.settle.new.self c.args.out.now c.settle.new.out turn) (sym c.with_step.ensures)
    (subst (λ o. Does o c.args.self.now c.settle.new.self c.args.out.now c.settle.new.out (turn_with c.in_ok-kind.kind c.settle.new.made)) (same_number (csp_of c.args.self.now.known.problem.now) c.args.self.now.known.me 0 number (agent_of c.args.self.now) c.requires.fresh) c.in_ok-kind.ensures.does)

pub returns-clause-first : goal.returns-clause-first
returns-clause-first c =
    subst (λ turn. IsFirstTurn turn) (sym c.with_step.ensures)
    (first_turn (csp_of c.args.self.now.known.problem.now) c.args.self.now.known.me 0 (agent_of c.args.self.now) (turn_with c.in_ok-kind.kind c.settle.new.made) c.requires.fresh c.in_ok-kind.ensures.does.turn_is)

pub returns-clause-right : goal.returns-clause-right
returns-clause-right c made =
    let none : (x : Record) → In x (agent_of c.args.self.now).recorded → ⊥ = λ x u. subst (λ (a : Agent). In x a.recorded) c.requires.fresh u in
    subst (λ turn. IsRightTurn (csp_of c.args.self.now.known.problem.now) made turn) (sym c.with_step.ensures)
    (settle_right (csp_of c.args.self.now.known.problem.now) made c.args.self.now.known.me (agent_of c.args.self.now)
    (c.agents_step_right.ensures (csp_of c.args.self.now.known.problem.now) c.denotes_csp.ensures.csp c.args.self.now.known.me c.requires.good.sized.in_step.me_exists made (agent_of c.args.self.now) c.requires.good.sound (λ x u. absurd (none x u))) 0 (turn_with c.in_ok-kind.kind c.settle.new.made) c.in_ok-kind.ensures.does.turn_is)
