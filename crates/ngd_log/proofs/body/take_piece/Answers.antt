use Rattle.ngd_log.specs.Pieces.{kept}
use Rattle.ngd_log.proofs.Standings.{front_line, front_whole}
use Rattle.ngd_log.proofs.body.take_piece.Goals as goal

pub loop-line-preserved : goal.loop-line-preserved
loop-line-preserved c = record {
  taken = front_line (kept c.args.body.now) (kept c.loop-line.body) (kept c.append_line.new.body) c.args.piece.now c.loop-line.rest.now c.in-Some.line.now c.in-Some.others.now c.args.into.now c.loop-line.into c.append_line.new.into
      c.loop-line.invariant.taken c.in-Some.ensures.parts c.append_line.ensures.feeds;
  sound = c.append_line.ensures.sound;
}

pub returns-clause-feeds : goal.returns-clause-feeds
returns-clause-feeds c =
    front_whole (kept c.args.body.now) (kept c.loop-line.body) (kept c.take_part.new.body) c.args.piece.now c.loop-line.rest.now c.args.into.now c.loop-line.into c.loop-line.into
    c.loop-line.invariant.taken (c.take_part.ensures.feeds c.loop-line.into)
