use Rattle.std.proofs.Common.{subst, sym}
use Rattle.dcsp_rule.specs.Problems.{csp_of}
use Rattle.abt_agent.specs.Rights.{IsRightTurn}
use Rattle.abt_agent.proofs.agent.Agent.receive.Goals as goal

pub returns-clause-right : goal.returns-clause-right
returns-clause-right c made rooted brings =
    subst (λ turn. IsRightTurn (csp_of c.args.self.now.problem) made turn) (sym c.with_step.ensures) (c.in_ok-kind.ensures.right made rooted brings)
