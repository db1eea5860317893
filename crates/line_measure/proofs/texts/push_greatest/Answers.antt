use Rattle.line_measure.proofs.Growing.{bytes_last, piece_more}
use Rattle.line_measure.proofs.texts.push_greatest.Goals as goal

pub returns : goal.returns
returns c =
    let old = c.args.into.now.items in
    let recorded = piece_more old _ _ _ _ c.in_ok-push_number.ensures c.in_ok-push_number-2.ensures in
    let transit = piece_more old _ _ _ _ recorded c.in_ok-push_number-3.ensures in
    let links = piece_more old _ _ _ _ transit c.in_ok-push_number-4.ensures in
    bytes_last c.extend_from_slice.result old _ _ _ _ links c.extend_from_slice.ensures.items
