use Rattle.line_measure.proofs.Growing.{piece_last, piece_more}
use Rattle.line_measure.proofs.texts.push_head.Goals as goal

pub returns : goal.returns
returns c =
    let old = c.args.into.now.items in
    let checks = piece_more old _ _ _ _ c.in_ok-push_end.ensures c.in_ok-push_checks.ensures in
    piece_last c.push_greatest.result old _ _ _ _ checks c.push_greatest.ensures
