use Rattle.std.proofs.Common.{rules, length, ◌≡◌, [], ◌∷◌, get_or, subst, sym}
use Rattle.std.proofs.lemmas.List.{take_more}
use Rattle.rup_check.specs.Kept.{all_of, clauses_of, more_of}
use Rattle.rup_check.specs.Watches.{IsRest, IsState}
use Rattle.rup_check.proofs.GrowLaws.{unit_state, unit_root_sound, unit_root}
use Rattle.rup_check.proofs.RunLaws.{take_front}
use Rattle.rup_check.proofs.propagation.add_unit.Goals as goal

pub run-requires-clause-state : goal.run-requires-clause-state
run-requires-clause-state c =
    let from : c.len-from.result ≡ length c.args.assignment.now.trail.items = search rules in
    (c.add.new.self.trail.items, c.args.assignment.now.trail.items, subst (λ z. IsState (more_of c.args.known.now) c.add_none.new.self.pairs.items c.add_none.new.self.lists.items c.add.new.self.trail.items c.args.assignment.now.trail.items c.add.new.self.marks.items z) (sym (take_front c.args.assignment.now.trail.items c.add.new.self.trail.items c.len-from.result from (c.args.literal ∷ [], c.in_ok-add.ensures.trail))) (unit_state (clauses_of c.args.known.now) (more_of c.args.known.now) c.args.watches.now.pairs.items c.add_none.new.self.pairs.items c.add_none.new.self.lists.items c.args.assignment.now.marks.items c.args.assignment.now.trail.items (get_or (all_of c.args.known.now) c.args.known.now.count []) (take_more (all_of c.args.known.now) c.args.known.now.count [] c.requires.next) (subst (λ z. IsRest (clauses_of c.args.known.now) c.args.watches.now.pairs.items z c.args.assignment.now.marks.items c.args.assignment.now.trail.items) (sym c.add_none.ensures.lists) c.requires.rests) c.args.literal c.add.new.self.marks.items c.add.new.self.trail.items c.requires.unit c.in_ok-add_none.ensures.pairs c.in_ok-add.ensures.marks c.in_ok-add.ensures.trail))

pub run-requires-clause-clean : goal.run-requires-clause-clean
run-requires-clause-clean c = (unit_root_sound (clauses_of c.args.known.now) (more_of c.args.known.now) c.args.watches.now.pairs.items c.add_none.new.self.pairs.items c.add_none.new.self.lists.items c.args.assignment.now.marks.items c.args.assignment.now.trail.items (get_or (all_of c.args.known.now) c.args.known.now.count []) (take_more (all_of c.args.known.now) c.args.known.now.count [] c.requires.next) (subst (λ z. IsRest (clauses_of c.args.known.now) c.args.watches.now.pairs.items z c.args.assignment.now.marks.items c.args.assignment.now.trail.items) (sym c.add_none.ensures.lists) c.requires.rests) c.args.literal c.add.new.self.marks.items c.add.new.self.trail.items c.requires.unit c.in_ok-add_none.ensures.pairs c.in_ok-add.ensures.marks c.in_ok-add.ensures.trail).consistent

pub returns : goal.returns
returns c =
    let from : c.len-from.result ≡ length c.args.assignment.now.trail.items = search rules in
    unit_root (clauses_of c.args.known.now) (more_of c.args.known.now) c.args.watches.now.pairs.items c.add_none.new.self.pairs.items c.add_none.new.self.lists.items c.args.assignment.now.marks.items c.args.assignment.now.trail.items (get_or (all_of c.args.known.now) c.args.known.now.count []) (take_more (all_of c.args.known.now) c.args.known.now.count [] c.requires.next) (subst (λ z. IsRest (clauses_of c.args.known.now) c.args.watches.now.pairs.items z c.args.assignment.now.marks.items c.args.assignment.now.trail.items) (sym c.add_none.ensures.lists) c.requires.rests) c.args.literal c.add.new.self.marks.items c.add.new.self.trail.items c.requires.unit c.in_ok-add_none.ensures.pairs c.in_ok-add.ensures.marks c.in_ok-add.ensures.trail c.run.new.watches.pairs.items c.run.new.watches.lists.items c.run.new.assignment.marks.items c.run.new.assignment.trail.items c.in_ok-refuted.refuted c.in_ok-refuted.ensures.assigned c.in_ok-refuted.ensures.trail c.in_ok-refuted.ensures.sound
    (c.in_ok-refuted.ensures.ran c.add.new.self.trail.items c.args.assignment.now.trail.items (subst (λ z. IsState (more_of c.args.known.now) c.add_none.new.self.pairs.items c.add_none.new.self.lists.items c.add.new.self.trail.items c.args.assignment.now.trail.items c.add.new.self.marks.items z) (sym (take_front c.args.assignment.now.trail.items c.add.new.self.trail.items c.len-from.result from (c.args.literal ∷ [], c.in_ok-add.ensures.trail))) (unit_state (clauses_of c.args.known.now) (more_of c.args.known.now) c.args.watches.now.pairs.items c.add_none.new.self.pairs.items c.add_none.new.self.lists.items c.args.assignment.now.marks.items c.args.assignment.now.trail.items (get_or (all_of c.args.known.now) c.args.known.now.count []) (take_more (all_of c.args.known.now) c.args.known.now.count [] c.requires.next) (subst (λ z. IsRest (clauses_of c.args.known.now) c.args.watches.now.pairs.items z c.args.assignment.now.marks.items c.args.assignment.now.trail.items) (sym c.add_none.ensures.lists) c.requires.rests) c.args.literal c.add.new.self.marks.items c.add.new.self.trail.items c.requires.unit c.in_ok-add_none.ensures.pairs c.in_ok-add.ensures.marks c.in_ok-add.ensures.trail)))
