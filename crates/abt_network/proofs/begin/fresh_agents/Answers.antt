use Rattle.std.proofs.Common.{length, sym, ap, subst, arith, List}
use Rattle.std.proofs.lemmas.List.{length_push}
use Rattle.abt_agent.specs.States.{State, IsFresh}
use Rattle.abt_network.specs.Standing.{state_at}
use Rattle.abt_network.proofs.Beginning.{fresh_more}
use Rattle.abt_network.proofs.begin.fresh_agents.Goals as goal

pub loop-agent-preserved : goal.loop-agent-preserved
loop-agent-preserved c =
    let before = c.loop-agent.agents.items in
    let same = c.in_ok-add_agent.ensures in
    let a = length_push before c.in_ok-agent.agent in
    let b = ap (λ (l : List State). length l) same in
    let long = c.loop-agent.invariant.long in
    record {
      long = omega (arith, a, b, long);
      fresh = λ k l. subst (λ (items : List State). IsFresh c.args.problem.now k (state_at items k)) (sym same)
          (fresh_more c.args.problem.now before c.loop-agent.agent c.in_ok-agent.agent c.loop-agent.invariant.long c.loop-agent.invariant.fresh c.in_ok-agent.ensures k l);
    }
