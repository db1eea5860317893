use Rattle.std.proofs.Common.{subst, sym}
use Rattle.abt_network.specs.Standing.{LeadsOn}
use Rattle.abt_network.proofs.network.Network.deliver.Goals as goal

pub returns-clause-leads : goal.returns-clause-leads
returns-clause-leads c choices st =
    subst (λ d. LeadsOn c.args.self.now c.deliver_into.new.self choices c.args.choice d) (sym c.into_delivery.ensures) (c.in_ok-deliver_into.ensures.leads choices st)
