use Rattle.std.proofs.Common.{refl, arith}
use Rattle.line_check.specs.declared.log_check.LogCheck.{LogCheck}
use Rattle.line_check.proofs.Taking.{front_none, front_more, front_whole, front_come, front_room}
use Rattle.line_check.proofs.log_check.LogCheck.take_piece.Goals as goal

pub loop-others-init : goal.loop-others-init
loop-others-init c = front_none c.args.self.now c.args.piece.now

pub take_line-requires : goal.take_line-requires
take_line-requires c =
    let same = front_room c.args.self.now c.loop-others.self c.args.piece.now c.loop-others.rest.now c.loop-others.invariant in
    let room = c.requires in
    omega (arith, same, room)

pub loop-others-preserved : goal.loop-others-preserved
loop-others-preserved c =
    let b = c.loop-others.self in
    let mid : LogCheck = record { alloc = b.alloc; reader = c.take_line.new.self; checker = b.checker } in
    front_more c.args.self.now b mid c.take_lent.new.self c.args.piece.now c.loop-others.rest.now c.in-Some.others.now c.loop-others.invariant (record { problem = refl; keeps = refl }) refl
    (rw c.in-Some.is at c.in_ok-others.ensures.line) c.in_ok-take_lent.ensures

pub returns-clause-task : goal.returns-clause-task
returns-clause-task c =
    let b = c.loop-others.self in
    let mid : LogCheck = record { alloc = b.alloc; reader = c.take_line.new.self; checker = b.checker } in
    (front_whole c.args.self.now b mid c.args.piece.now c.loop-others.rest.now c.loop-others.invariant (record { problem = refl; keeps = refl }) refl
    (rw c.in_default.is at c.in_ok-others.ensures.part) (rw c.in_default.is at c.in_ok-others.ensures.silent)).task

pub returns-clause-come : goal.returns-clause-come
returns-clause-come c = λ text h.
    let b = c.loop-others.self in
    let mid : LogCheck = record { alloc = b.alloc; reader = c.take_line.new.self; checker = b.checker } in
    front_come c.args.self.now mid c.args.piece.now (front_whole c.args.self.now b mid c.args.piece.now c.loop-others.rest.now c.loop-others.invariant (record { problem = refl; keeps = refl }) refl
    (rw c.in_default.is at c.in_ok-others.ensures.part) (rw c.in_default.is at c.in_ok-others.ensures.silent)) text h
