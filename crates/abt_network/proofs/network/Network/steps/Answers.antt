use Rattle.std.proofs.Common.{◌≡◌, ◌<◌, ◌≤◌, ◌+◌, ◌^◌, false, subst, arith}
use Rattle.abt_network.specs.Standing.{NetworkState}
use Rattle.abt_network.proofs.Quiet.{few_steps}
use Rattle.abt_network.proofs.network.Network.steps.Goals as goal

pub returns-clause-few : goal.returns-clause-few
returns-clause-few c =
    subst (λ (s : NetworkState). s.spent ≡ false → c.self.inside.body.steps ≤ s.deliveries + 1) c.self.view_is
    (λ good. few_steps c.self.inside.body c.denotes_csp.ensures.csp (c.self.invariant.kept good))

pub returns-clause-fits : goal.returns-clause-fits
returns-clause-fits c =
    subst (λ (s : NetworkState). s.spent ≡ false → c.self.inside.body.steps < 2 ^ 62) c.self.view_is
    (λ good. let few = few_steps c.self.inside.body c.denotes_csp.ensures.csp (c.self.invariant.kept good) in let most = (c.self.invariant.kept good).few in omega (arith, few, most))
