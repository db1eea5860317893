use Rattle.std.proofs.Common.{refl, [], ◌∷◌}
use Rattle.rup_check.proofs.RunLaws.{extends_same}
use Rattle.rup_check.specs.Kept.{clauses_of}
use Rattle.rup_check.proofs.WatchLaws.{arm_drop, arm_stay, arm_move, arm_out, arm_force, arm_sound, arm_conflict}
use Rattle.rup_check.proofs.turns.take_turn.Goals as goal

pub returns-in-Drop-clause-taken : goal.returns-in-Drop-clause-taken
returns-in-Drop-clause-taken c =
    arm_drop (clauses_of c.args.known.now) c.args.watches.now.pairs.items c.args.watches.now.lists.items c.args.literal c.args.assignment.now.marks.items c.args.number c.pair.result c.requires.entry c.pair.ensures c.in-Drop.ensures

pub returns-in-Stay-clause-taken : goal.returns-in-Stay-clause-taken
returns-in-Stay-clause-taken c =
    arm_stay (clauses_of c.args.known.now) c.args.watches.now.pairs.items c.args.watches.now.lists.items c.args.literal c.args.assignment.now.marks.items c.args.number c.pair.result c.requires.entry c.pair.ensures c.in-Stay.ensures

pub returns-in_ok-push_to-in-Move-clause-taken : goal.returns-in_ok-push_to-in-Move-clause-taken
returns-in_ok-push_to-in-Move-clause-taken c =
    arm_move (clauses_of c.args.known.now) c.args.watches.now.pairs.items c.args.watches.now.lists.items c.args.literal c.args.assignment.now.marks.items c.args.number c.pair.result c.requires.entry c.pair.ensures _ _ c.in-Move.other c.in-Move.to c.in-Move.at refl c.in_ok-push_to-in-Move.ensures c.requires.clean c.requires.false_ c.requires.small c.in-Move.ensures

pub returns-in_ok-push_to-in-Move-clause-out : goal.returns-in_ok-push_to-in-Move-clause-out
returns-in_ok-push_to-in-Move-clause-out c =
    arm_out (clauses_of c.args.known.now) c.args.watches.now.pairs.items c.args.watches.now.lists.items c.args.literal c.args.assignment.now.marks.items c.args.number c.pair.result c.requires.entry c.pair.ensures _ c.in-Move.other c.in-Move.to c.in-Move.at c.in_ok-push_to-in-Move.ensures c.requires.false_ c.in-Move.ensures

pub returns-in_ok-add-in-Force-clause-sound : goal.returns-in_ok-add-in-Force-clause-sound
returns-in_ok-add-in-Force-clause-sound c =
    arm_sound (clauses_of c.args.known.now) c.args.watches.now.pairs.items c.args.watches.now.lists.items c.args.literal c.args.assignment.now.marks.items c.args.number c.pair.result c.requires.entry c.pair.ensures _ c.in-Force.other c.requires.assigned.size c.in_ok-add-in-Force.ensures.marks c.in-Force.ensures

pub returns-in_ok-add-in-Force-clause-taken : goal.returns-in_ok-add-in-Force-clause-taken
returns-in_ok-add-in-Force-clause-taken c =
    arm_force (clauses_of c.args.known.now) c.args.watches.now.pairs.items c.args.watches.now.lists.items c.args.literal c.args.assignment.now.marks.items c.args.number c.pair.result c.requires.entry c.pair.ensures _ c.in-Force.other c.requires.assigned.size c.in_ok-add-in-Force.ensures.marks c.in-Force.ensures

pub returns-in-Conflict-clause-taken : goal.returns-in-Conflict-clause-taken
returns-in-Conflict-clause-taken c =
    arm_conflict (clauses_of c.args.known.now) c.args.watches.now.pairs.items c.args.watches.now.lists.items c.args.literal c.args.assignment.now.marks.items c.args.number c.pair.result c.requires.entry c.pair.ensures c.in-Conflict.ensures

pub returns-in-Drop-clause-trail : goal.returns-in-Drop-clause-trail
returns-in-Drop-clause-trail c = extends_same c.args.assignment.now.trail.items

pub returns-in-Stay-clause-trail : goal.returns-in-Stay-clause-trail
returns-in-Stay-clause-trail c = extends_same c.args.assignment.now.trail.items

pub returns-in_ok-push_to-in-Move-clause-trail : goal.returns-in_ok-push_to-in-Move-clause-trail
returns-in_ok-push_to-in-Move-clause-trail c = extends_same c.args.assignment.now.trail.items

pub returns-in-Conflict-clause-trail : goal.returns-in-Conflict-clause-trail
returns-in-Conflict-clause-trail c = extends_same c.args.assignment.now.trail.items

pub returns-in_ok-add-in-Force-clause-trail : goal.returns-in_ok-add-in-Force-clause-trail
returns-in_ok-add-in-Force-clause-trail c = (c.in-Force.other ∷ [], c.in_ok-add-in-Force.ensures.trail)
