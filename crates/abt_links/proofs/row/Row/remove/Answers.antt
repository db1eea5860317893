use Rattle.std.proofs.Common.{◌<◌, ◌/◌, length, ap, arith}
use Rattle.abt_links.proofs.Rows.{kept-used}
use Rattle.abt_links.proofs.row.Row.remove.Goals as goal

pub invariant_of-self-else-word-eq0 : goal.invariant_of-self-else-word-eq0
invariant_of-self-else-word-eq0 c =
    let inside : c.args.number / 64 < length c.self.inside.words.items = omega (arith, c.requires, ap length c.self.view_is) in
    kept-used c.self.inside.words.items c.self.inside.used (c.args.number / 64) c.without_bit-word.result c.index.result.now c.self.invariant inside c.index.ensures c.without_bit-word.ensures.less c.if-word-eq0.false
