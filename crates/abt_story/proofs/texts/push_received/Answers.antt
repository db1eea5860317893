use Rattle.abt_story.proofs.Growing.{bytes_last, one_fact, piece_more}
use Rattle.abt_story.proofs.texts.push_received.Goals as goal

pub returns : goal.returns
returns c =
    let old = c.args.into.now.items in
    let head = piece_more old _ _ _ _ c.in_ok-push_number.ensures c.in_ok-extend_from_slice.ensures.items in
    let from = piece_more old _ _ _ _ head c.in_ok-push_agent.ensures in
    let arrow = piece_more old _ _ _ _ from c.in_ok-extend_from_slice-2.ensures.items in
    let to = piece_more old _ _ _ _ arrow c.in_ok-push_agent-2.ensures in
    let cargo = piece_more old _ _ _ _ to c.in_ok-push_cargo.ensures in
    one_fact c.extend_from_slice-3.result old _ _ (bytes_last c.extend_from_slice-3.result old _ _ _ _ cargo c.extend_from_slice-3.ensures.items)
