use Rattle.std.proofs.Common.{sym}
use Rattle.std.proofs.lemmas.Bool.{ltb-true, eqb-true}
use Rattle.ngd_store.proofs.Rooms.{marked}
use Rattle.ngd_store.proofs.arena.is_given_back.Goals as goal

pub returns : goal.returns
returns c h =
    let l = c.in-Some.ensures.lookup in
    marked c.args.cells.now c.args.start c.args.count c.in-Some.cell.now _ c.requires (ltb-true _ _ (sym l.0)) l.1 c.if-cell.false (eqb-true _ _ h)
