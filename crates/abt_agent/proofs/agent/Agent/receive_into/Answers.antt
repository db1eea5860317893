use Rattle.std.proofs.Common.{subst, sym}
use Rattle.law_agent.specs.Stores.{IsBoundedStore}
use Rattle.law_agent.specs.Merges.{IsUnionOfReasons}
use Rattle.dcsp_rule.specs.Problems.{csp_of}
use Rattle.abt_parts.specs.Stores.{records_of}
use Rattle.abt_agent.specs.States.{State, Acts, stands_for}
use Rattle.law_agent.specs.Sources.{AreOfSteps}
use Rattle.abt_agent.specs.Rights.{IsRightTurn}
use Rattle.abt_agent.specs.Bodies.{agent_of}
use Rattle.abt_defs.specs.Steps as steps
use Rattle.abt_parts.specs.Messages.{message_of}
use Rattle.abt_agent.specs.Turns.{turn_with}
use Rattle.abt_agent.proofs.Acting.{state_of, acts}
use Rattle.abt_agent.proofs.Receives.{moved_sound}
use Rattle.abt_agent.proofs.agent.Agent.receive_into.Goals as goal

pub returns-in-Ok-clause-does : goal.returns-in-Ok-clause-does
returns-in-Ok-clause-does c =
    subst (λ (s : State). Acts s (state_of c.receive.new.self c.self.inside.spent) (steps.receive (csp_of s.problem) s.me c.args.next_step (stands_for s) c.args.from (message_of c.args.message)) c.args.out.now c.receive.new.out (turn_with c.in-Ok.kind c.receive.new.made)) c.self.view_is
    (acts (steps.receive (csp_of c.self.inside.body.known.problem.now) c.self.inside.body.known.me c.args.next_step (agent_of c.self.inside.body) c.args.from (message_of c.args.message)) c.self.inside.body c.receive.new.self c.self.inside.spent c.args.out.now c.receive.new.out (turn_with c.in-Ok.kind c.receive.new.made) c.in-Ok.ensures.owner c.if-self.false (c.in-Ok.ensures.does))

pub returns-in-Ok-clause-right : goal.returns-in-Ok-clause-right
returns-in-Ok-clause-right c made rooted brings =
    subst (λ (s : State). AreOfSteps made (records_of s.store) → IsRightTurn (csp_of s.problem) made (turn_with c.in-Ok.kind c.receive.new.made)) c.self.view_is (λ kept. c.in-Ok.ensures.right made kept brings) rooted

pub returns-in-Ok-clause-bounded : goal.returns-in-Ok-clause-bounded
returns-in-Ok-clause-bounded c =
    subst (λ (s : State). IsBoundedStore (csp_of s.problem) s.me (agent_of c.receive.new.self)) c.self.view_is
    (c.sound_stores.ensures (csp_of c.self.inside.body.known.problem.now) c.self.inside.body.known.me (agent_of c.receive.new.self) (moved_sound c.receive.new.self.known c.self.inside.body.known (agent_of c.receive.new.self) (sym c.in-Ok.ensures.owner) c.in-Ok.ensures.good.sound))

pub returns-in-Ok-clause-merges : goal.returns-in-Ok-clause-merges
returns-in-Ok-clause-merges c =
    subst (λ (s : State). IsUnionOfReasons (csp_of s.problem) s.me (agent_of c.receive.new.self)) c.self.view_is
    (c.sound_merges.ensures (csp_of c.self.inside.body.known.problem.now) c.denotes_csp.ensures.csp c.self.inside.body.known.me (agent_of c.receive.new.self) (moved_sound c.receive.new.self.known c.self.inside.body.known (agent_of c.receive.new.self) (sym c.in-Ok.ensures.owner) c.in-Ok.ensures.good.sound))
