use Rattle.std.proofs.Common.{◌≡◌, ◌+◌, ◌∙◌, length, sym, ap, subst, arith, Option}
use Rattle.dcsp_defs.specs.declared.Step.{Step}
use Rattle.abt_defs.specs.Network.{empty_network, settle_below}
use Rattle.dcsp_rule.specs.Problems.{Contents, csp_of}
use Rattle.abt_agent.specs.States.{IsFresh}
use Rattle.abt_network.specs.Standing.{Stands, state_at}
use Rattle.abt_network.specs.Settling.{HasSettled, HaveSettled}
use Rattle.abt_network.proofs.Beginning.{settled_more, settled_stays}
use Rattle.abt_network.proofs.body.NetworkBody.settle_all.Goals as goal

pub settle_one-requires-clause-exists : goal.settle_one-requires-clause-exists
settle_one-requires-clause-exists c =
    let a = c.loop-agent-test.true in
    let b = c.vars-agent-end.ensures.vars in
    let n = sym (length_of c.loop-agent.invariant.problem) in
    omega (arith, a, b, n)
  where
    length_of : {p q : Contents} → p ≡ q → length p.domains ≡ length q.domains
    length_of e = ap (λ (r : Contents). length r.domains) e

pub settle_one-requires-clause-fresh : goal.settle_one-requires-clause-fresh
settle_one-requires-clause-fresh c =
    let a = c.loop-agent-test.true in
    let b = c.vars-agent-end.ensures.vars in
    subst (λ (q : Contents). IsFresh q c.loop-agent.agent (state_at c.loop-agent.self.agents.items c.loop-agent.agent)) (sym c.loop-agent.invariant.problem) (c.loop-agent.invariant.fresh c.loop-agent.agent (omega arith) (omega (arith, a, b)))

pub returns-in-Some-clause-settles : goal.returns-in-Some-clause-settles
returns-in-Some-clause-settles c =
    let p = c.args.self.now.problem.now in
    let i = c.loop-agent.agent in
    let inv = c.loop-agent.invariant in
    let net = settle_below (csp_of p) i (empty_network (csp_of p)) in
    let after = c.settle_one.new.self in
    let a = c.loop-agent-test.true in
    let b = c.vars-agent-end.ensures.vars in
    let one = subst (λ (q : Contents). Stands q c.loop-agent.self.agents.items c.loop-agent.self.links net → HasSettled q after.agents.items after.links net i c.in_ok-step.field-0) inv.problem (c.in_ok-step.ensures.settles net) inv.settled.stands in
    let more = settled_more p c.loop-agent.self.agents.items after.agents.items c.loop-agent.self.links after.links i c.in_ok-step.field-0 inv.settled one in
    settled_stays p after.agents.items after.links (i + 1) (length p.domains) c.in-Some.step (omega (arith, a, b))
    (subst (λ (o : Option Step). HaveSettled p after.agents.items after.links (settle_below (csp_of p) (i + 1) (empty_network (csp_of p))) o) c.in-Some.is more)

pub loop-agent-preserved : goal.loop-agent-preserved
loop-agent-preserved c =
    let p = c.args.self.now.problem.now in
    let i = c.loop-agent.agent in
    let inv = c.loop-agent.invariant in
    let net = settle_below (csp_of p) i (empty_network (csp_of p)) in
    let after = c.settle_one.new.self in
    let one = subst (λ (q : Contents). Stands q c.loop-agent.self.agents.items c.loop-agent.self.links net → HasSettled q after.agents.items after.links net i c.in_ok-step.field-0) inv.problem (c.in_ok-step.ensures.settles net) inv.settled.stands in
    let more = settled_more p c.loop-agent.self.agents.items after.agents.items c.loop-agent.self.links after.links i c.in_ok-step.field-0 inv.settled one in
    record {
      tidy = c.in_ok-step.ensures.tidy;
      problem = c.in_ok-step.ensures.problem ∙ inv.problem;
      fresh = λ k l w. subst (IsFresh p k) (sym (c.in_ok-step.ensures.others k (λ e. omega arith))) (inv.fresh k (omega arith) w);
      settled = subst (λ (o : Option Step). HaveSettled p after.agents.items after.links (settle_below (csp_of p) (i + 1) (empty_network (csp_of p))) o) c.in-None.is more;
    }
