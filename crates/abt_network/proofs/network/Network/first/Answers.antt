use Rattle.std.proofs.Common.{◌∙◌, ap}
use Rattle.std.specs.Option.{option_copied}
use Rattle.abt_links.specs.Transit.{link_of}
use Rattle.abt_network.specs.Standing.{NetworkState}
use Rattle.abt_network.proofs.Posting.{head_stamped}
use Rattle.abt_network.proofs.network.Network.first.Goals as goal

pub returns-clause-stamped : goal.returns-clause-stamped
returns-clause-stamped c good =
    let kept = c.self.invariant.kept (ap (λ (s : NetworkState). s.spent) c.self.view_is ∙ good) in
    head_stamped (link_of c.self.inside.body.links c.args.from c.args.to) (option_copied c.first.result) c.first.ensures (kept.tidy.stamped c.args.from c.args.to)
