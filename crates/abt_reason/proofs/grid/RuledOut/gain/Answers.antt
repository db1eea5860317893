use Rattle.std.proofs.Common.{◌+◌, refl, length, true, false, arith}
use Rattle.abt_reason.proofs.CountLaws.{adds, small, is_mark, is_other, first_was, kept}
use Rattle.abt_reason.proofs.grid.RuledOut.gain.Goals as goal

pub overflow_add-index_mut : goal.overflow_add-index_mut
overflow_add-index_mut c =
    let was = c.requires.counts in
    let e = adds c.args.values c.args.self.now.rows.items c.args.place c.args.value c.requires.place c.args.self.now.counts.items c.requires.value c.args.self.now.firsts.items was.row was.grid true false was.marked refl refl c.index_mut.result.now c.index_mut.ensures.value in
    let most = small c.args.values c.args.self.now.rows.items c.args.place c.args.value c.requires.place c.args.self.now.counts.items c.requires.value c.args.self.now.firsts.items was.row was.grid true false was.marked in
    omega (arith, e, most, was.grid.few)

pub returns-clause-grid : goal.returns-clause-grid
returns-clause-grid c = λ row grid marked.
    let e = adds c.args.values c.args.self.now.rows.items c.args.place c.args.value c.requires.place c.args.self.now.counts.items c.requires.value c.args.self.now.firsts.items row grid true false marked refl refl c.index_mut.result.now c.index_mut.ensures.value in
    let was = first_was c.args.values c.args.self.now.rows.items c.args.place c.args.value c.requires.place c.args.self.now.counts.items c.requires.value c.args.self.now.firsts.items row grid true false marked c.index.result.now c.index.ensures in
    let on = is_mark c.args.values c.args.self.now.rows.items c.args.place c.args.value c.requires.place c.args.self.now.counts.items c.requires.value c.args.self.now.firsts.items row grid true false marked in
    let same = is_other c.args.values c.args.self.now.rows.items c.args.place c.args.value c.requires.place c.args.self.now.counts.items c.requires.value c.args.self.now.firsts.items row grid true false marked in
    kept c.args.values c.args.self.now.rows.items c.args.place c.args.value c.requires.place c.args.self.now.counts.items c.requires.value c.args.self.now.firsts.items row grid true false marked (c.index_mut.result.now + 1) c.with_place.result e
    (c.with_place.ensures _ _ (length c.args.self.now.rows.items) was c.requires.place on same)
