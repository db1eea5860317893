use Rattle.std.proofs.Common.{◌*◌, refl, sym, arith}
use Rattle.line_check.proofs.Taking.{stands_at_start, stands_on, stopped_to, ended_in, leads_to_end}
use Rattle.line_check.proofs.pieces.check_pieces.Goals as goal

pub loop-place-init : goal.loop-place-init
loop-place-init g c = record {
  stands = (let p = g.F.Folder.place c.args.folder.now in stands_at_start p.held p.handed c.args.name.now c.args.check.now c.requires);
  task = record { problem = refl; keeps = refl };
  read = record { held = refl; created = refl; counts = record { reads = refl; writes = refl } };
}

pub returns-in_err-check_piece-clause-leads : goal.returns-in_err-check_piece-clause-leads
returns-in_err-check_piece-clause-leads g c =
    let p = g.F.Folder.place c.args.folder.now in
    let q = g.F.Folder.place c.loop-place.folder in
    let h = c.loop-place.invariant in
    stopped_to q.held p (g.F.Folder.place c.check_piece.new.folder) c.args.name.now c.check_piece.new.check _ c.from_residual.result c.from_residual.ensures h.read.held
    (c.in_err-check_piece.ensures.leads p.handed (stands_on p.held q.held p.handed q.handed c.args.name.now (c.loop-place.place * 65536) (c.loop-place.place * 65536) c.loop-place.check (sym h.read.held) refl h.stands))

pub returns-in-End-clause-leads : goal.returns-in-End-clause-leads
returns-in-End-clause-leads g c =
    let p = g.F.Folder.place c.args.folder.now in
    let q = g.F.Folder.place c.loop-place.folder in
    let h = c.loop-place.invariant in
    ended_in q.held p (g.F.Folder.place c.check_piece.new.folder) c.args.name.now (c.loop-place.place * 65536) c.check_piece.new.check c.in_ok-check_piece.field-0 c.in-End.is h.read.held (omega arith)
    (c.in_ok-check_piece.ensures.leads p.handed (stands_on p.held q.held p.handed q.handed c.args.name.now (c.loop-place.place * 65536) (c.loop-place.place * 65536) c.loop-place.check (sym h.read.held) refl h.stands))

pub returns-clause-leads : goal.returns-clause-leads
returns-clause-leads g c =
    let p = g.F.Folder.place c.args.folder.now in
    let h = c.loop-place.invariant in
    leads_to_end (g.F.Folder.place c.loop-place.folder).held p (g.F.Folder.place c.check_piece-2.new.folder) c.args.name.now _ c.check_piece-2.new.check c.check_piece-2.result h.read.held refl
    (c.check_piece-2.ensures.leads p.handed (stands_on p.held (g.F.Folder.place c.loop-place.folder).held p.handed (g.F.Folder.place c.loop-place.folder).handed c.args.name.now (c.loop-place.place * 65536) 4611686018427387904 c.loop-place.check (sym h.read.held) (omega arith) h.stands))
