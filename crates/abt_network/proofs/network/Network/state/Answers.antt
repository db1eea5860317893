use Rattle.std.proofs.Common.{subst, arith}
use Rattle.dcsp_rule.specs.Problems.{csp_of}
use Rattle.abt_defs.specs.Network.{IsSolved}
use Rattle.abt_network.specs.Standing.{NetworkState, StandsAt, reached}
use Rattle.abt_network.specs.Bodies.{shown}
use Rattle.abt_network.proofs.Quiet.{solved}
use Rattle.abt_network.proofs.network.Network.state.Goals as goal

pub returns-then-ready_count-eq0-clause-solved : goal.returns-then-ready_count-eq0-clause-solved
returns-then-ready_count-eq0-clause-solved c choices st good quiet =
    let s : NetworkState = shown c.self.inside.body c.self.inside.spent in
    subst (λ (z : NetworkState). StandsAt z (reached z choices) → IsSolved (csp_of z.problem) (reached z choices)) c.self.view_is
    (solved s c.denotes_csp.ensures.csp c.self.invariant.sized.linked c.if-self.false (omega (arith, c.if-ready_count-eq0.true, c.ready_count.ensures)) choices) st
