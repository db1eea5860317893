use Rattle.std.proofs.Common.{◌++◌, subst, arith}
use Rattle.std.proofs.lemmas.Result.{err_from_is_err_and}
use Rattle.line_check.specs.LogChecks.{HasCome}
use Rattle.line_check.proofs.Taking.{piece_small, piece_leads, piece_stopped, stopped_at}
use Rattle.line_check.proofs.pieces.check_piece.Goals as goal

pub take_piece-requires : goal.take_piece-requires
take_piece-requires g c =
    let fed = c.requires.stands.1.come.fed.fed in
    let counted = c.requires.stands.1.counted in
    let small = piece_small c.args.most _ c.fetch_piece.new.into.items c.in-Ok.fetched c.new-piece.ensures.items c.in-Ok.ensures.adds in
    let few = c.requires.few in
    let place = c.requires.place in
    omega (arith, fed, counted, small, few, place)

pub returns-clause-leads : goal.returns-clause-leads
returns-clause-leads g c = λ start stands.
    let p = g.F.Folder.place c.args.folder.now in
    piece_leads p.held start p.handed (g.F.Folder.place c.fetch_piece.new.self).handed c.args.name.now c.args.from c.args.most c.args.check.now c.take_piece.new.self _ c.fetch_piece.new.into.items c.in-Ok.fetched c.new-piece.ensures.items c.in-Ok.ensures.handed
    stands c.in-Ok.ensures.adds c.in-Ok.ensures.bytes (λ text h. subst (λ p. HasCome c.take_piece.new.self (text ++ p)) c.deref.ensures.value (c.in_ok-take_piece.ensures.come text h))

pub returns-in_err-take_piece-clause-leads : goal.returns-in_err-take_piece-clause-leads
returns-in_err-take_piece-clause-leads g c = λ start stands.
    let p = g.F.Folder.place c.args.folder.now in
    let stopped = err_from_is_err_and c.from_residual.result c.from_residual.ensures.1 in
    rw stopped.1 (piece_stopped p.held start p.handed (g.F.Folder.place c.fetch_piece.new.self).handed c.args.name.now c.args.from c.args.most c.args.check.now _ c.fetch_piece.new.into.items c.in-Ok.fetched c.new-piece.ensures.items c.in-Ok.ensures.handed stands c.in-Ok.ensures.bytes)

pub returns-in-Err-Failed-clause-leads : goal.returns-in-Err-Failed-clause-leads
returns-in-Err-Failed-clause-leads g c = λ start stands.
    let p = g.F.Folder.place c.args.folder.now in
    stopped_at p.held start p.handed (g.F.Folder.place c.fetch_piece.new.self).handed c.args.name.now c.args.from c.args.check.now c.in-Err-Failed.ensures.handed stands

pub returns-in-Err-Memory-clause-leads : goal.returns-in-Err-Memory-clause-leads
returns-in-Err-Memory-clause-leads g c = λ start stands.
    let p = g.F.Folder.place c.args.folder.now in
    stopped_at p.held start p.handed (g.F.Folder.place c.fetch_piece.new.self).handed c.args.name.now c.args.from c.args.check.now c.in-Err-Memory.ensures.handed stands
