use Rattle.line_drill.proofs.Texts.{four_pieces}
use Rattle.line_drill.proofs.text.push_run.Goals as goal

pub returns : goal.returns
returns c = four_pieces c.args.into.now.items _ _ _ _ _ _ _ _ c.in_ok-extend_from_slice.ensures.items (rw c.word.ensures at c.in_ok-extend_from_slice-2.ensures.items) c.in_ok-extend_from_slice-3.ensures.items c.in_ok-push_number.ensures
