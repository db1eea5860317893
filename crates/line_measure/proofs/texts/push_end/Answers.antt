use Rattle.line_measure.proofs.Growing.{piece_last, piece_more}
use Rattle.line_measure.proofs.texts.push_end.Goals as goal

pub returns : goal.returns
returns c =
    let old = c.args.into.now.items in
    let word = rw c.end_word.ensures at c.in_ok-extend_from_slice-2.ensures.items in
    let ended = piece_more old _ _ _ _ c.in_ok-extend_from_slice.ensures.items word in
    let delivered = piece_more old _ _ _ _ ended c.in_ok-push_number.ensures in
    let ok = piece_more old _ _ _ _ delivered c.in_ok-push_number-2.ensures in
    let nogood = piece_more old _ _ _ _ ok c.in_ok-push_number-3.ensures in
    let link = piece_more old _ _ _ _ nogood c.in_ok-push_number-4.ensures in
    piece_last c.push_number-5.result old _ _ _ _ link c.push_number-5.ensures
