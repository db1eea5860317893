use Rattle.std.proofs.Common.{arith}
use Rattle.ngd_rewrite.proofs.LogEnds.{front_none, front_more, front_whole, front_room}
use Rattle.ngd_rewrite.proofs.log.take_lines.Goals as goal

pub loop-others-init : goal.loop-others-init
loop-others-init c = front_none c.args.reader.now c.args.ends.now.items c.args.text.now c.requires

pub take_line-requires : goal.take_line-requires
take_line-requires c =
    let l = c.loop-others in
    let room = front_room l.reader l.ends.items c.args.text.now l.rest.now l.invariant in
    omega (arith, room)

pub loop-others-preserved : goal.loop-others-preserved
loop-others-preserved c =
    let l = c.loop-others in
    front_more l.reader c.take_line.new.self l.ends.items c.take_lent.new.ends.items c.args.text.now l.rest.now c.in-Some.others.now l.invariant
    (rw c.in-Some.is at c.in_ok-others.ensures.line) c.in_ok-take_lent.ensures

pub returns : goal.returns
returns c =
    let l = c.loop-others in
    front_whole l.reader c.take_line.new.self l.ends.items c.args.text.now l.rest.now l.invariant (rw c.in_default.is at c.in_ok-others.ensures.part) (rw c.in_default.is at c.in_ok-others.ensures.silent)
