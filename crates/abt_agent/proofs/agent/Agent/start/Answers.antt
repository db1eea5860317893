use Rattle.std.proofs.Common.{◌≡◌, false, subst, sym}
use Rattle.law_agent.specs.Stores.{IsBoundedStore}
use Rattle.law_agent.specs.Merges.{IsUnionOfReasons}
use Rattle.dcsp_rule.specs.Problems.{csp_of}
use Rattle.abt_agent.specs.States.{State, IsFresh, Acts, stands_for}
use Rattle.abt_agent.specs.Rights.{IsRightTurn}
use Rattle.abt_agent.specs.Bodies.{agent_of}
use Rattle.abt_defs.specs.Steps as steps
use Rattle.abt_agent.proofs.Acting.{state_of, acts}
use Rattle.abt_agent.proofs.Receives.{moved_sound}
use Rattle.abt_agent.proofs.agent.Agent.start.Goals as goal

pub first_settle-requires-clause-fresh : goal.first_settle-requires-clause-fresh
first_settle-requires-clause-fresh c =
    (subst (λ (s : State). s.spent ≡ false → IsFresh s.problem s.me s) (sym c.self.view_is) c.requires c.if-self.false).agent

pub returns-in-Ok-clause-does : goal.returns-in-Ok-clause-does
returns-in-Ok-clause-does c number =
    subst (λ (s : State). Acts s (state_of c.first_settle.new.self c.self.inside.spent) (steps.settle (csp_of s.problem) s.me number (stands_for s)) c.args.out.now c.first_settle.new.out c.in-Ok.turn) c.self.view_is
    (acts (steps.settle (csp_of c.self.inside.body.known.problem.now) c.self.inside.body.known.me number (agent_of c.self.inside.body)) c.self.inside.body c.first_settle.new.self c.self.inside.spent c.args.out.now c.first_settle.new.out c.in-Ok.turn c.in-Ok.ensures.owner c.if-self.false (c.in-Ok.ensures.does number))

pub returns-in-Ok-clause-right : goal.returns-in-Ok-clause-right
returns-in-Ok-clause-right c made = subst (λ (s : State). IsRightTurn (csp_of s.problem) made c.in-Ok.turn) c.self.view_is (c.in-Ok.ensures.right made)

pub returns-in-Ok-clause-bounded : goal.returns-in-Ok-clause-bounded
returns-in-Ok-clause-bounded c =
    subst (λ (s : State). IsBoundedStore (csp_of s.problem) s.me (agent_of c.first_settle.new.self)) c.self.view_is
    (c.sound_stores.ensures (csp_of c.self.inside.body.known.problem.now) c.self.inside.body.known.me (agent_of c.first_settle.new.self) (moved_sound c.first_settle.new.self.known c.self.inside.body.known (agent_of c.first_settle.new.self) (sym c.in-Ok.ensures.owner) c.in-Ok.ensures.good.sound))

pub returns-in-Ok-clause-merges : goal.returns-in-Ok-clause-merges
returns-in-Ok-clause-merges c =
    subst (λ (s : State). IsUnionOfReasons (csp_of s.problem) s.me (agent_of c.first_settle.new.self)) c.self.view_is
    (c.sound_merges.ensures (csp_of c.self.inside.body.known.problem.now) c.denotes_csp.ensures.csp c.self.inside.body.known.me (agent_of c.first_settle.new.self) (moved_sound c.first_settle.new.self.known c.self.inside.body.known (agent_of c.first_settle.new.self) (sym c.in-Ok.ensures.owner) c.in-Ok.ensures.good.sound))
