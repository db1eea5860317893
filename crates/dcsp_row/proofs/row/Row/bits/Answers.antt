use Rattle.dcsp_row.proofs.WalkLaws.{bits_inside}
use Rattle.dcsp_row.proofs.row.Row.bits.Goals as goal

pub returns : goal.returns
returns c = bits_inside c.args.self.now c.args.block c.word.result c.low_word.result c.len.result c.len.ensures c.word.ensures c.low_word.ensures
