use Rattle.std.proofs.Common.{subst}
use Rattle.dcsp_defs.specs.Csp.{IsCsp}
use Rattle.dcsp_rule.specs.Problems.{csp_of}
use Rattle.abt_network.specs.Standing.{NetworkState}
use Rattle.abt_network.proofs.Quiet.{bounded}
use Rattle.abt_network.proofs.network.Network.value.Goals as goal

pub returns-clause-bounded : goal.returns-clause-bounded
returns-clause-bounded c choices st =
    bounded c.args.self.now (subst (λ (s : NetworkState). IsCsp (csp_of s.problem)) c.self.view_is c.denotes_csp.ensures.csp) choices st c.args.agent c.requires
