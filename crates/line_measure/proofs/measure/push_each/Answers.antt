use Rattle.line_measure.proofs.Growing.{piece_more, bytes_last}
use Rattle.line_measure.proofs.measure.push_each.Goals as goal

pub returns : goal.returns
returns c = λ done net rows lists stands.
    let old = c.args.into.now.items in
    let both = piece_more old _ _ _ _ (c.in_ok-push_agents.ensures done net rows stands) (c.in_ok-push_learned.ensures done lists) in
    bytes_last c.extend_from_slice.result old _ _ _ _ both c.extend_from_slice.ensures.items
