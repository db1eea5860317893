use Rattle.std.proofs.Common.{[], get_or, subst, sym, ◌∙◌}
use Rattle.std.proofs.lemmas.List.{take_more}
use Rattle.std.specs.List.{Contains}
use Rattle.rup_check.specs.Propagation.{IsFalsified}
use Rattle.rup_check.specs.Assignments.{flipped, Has}
use Rattle.rup_check.specs.Kept.{all_of, clauses_of, more_of}
use Rattle.rup_check.specs.Looks.{IsUnit, IsOpen}
use Rattle.rup_check.specs.Watches.{IsPairOf, IsRest, IsRoot}
use Rattle.rup_check.proofs.GrowLaws.{still_refuted, rest_true, root_false, rest_long}
use Rattle.rup_check.proofs.propagation.add_clause.Goals as goal

pub returns-then-watches : goal.returns-then-watches
returns-then-watches c =
    subst (λ b. IsRoot (more_of c.args.known.now) c.args.watches.now.pairs.items c.args.watches.now.lists.items c.args.assignment.now.marks.items c.args.assignment.now.trail.items b) (sym c.if-watches.true) (still_refuted (clauses_of c.args.known.now) (more_of c.args.known.now) (get_or (all_of c.args.known.now) c.args.known.now.count []) (take_more (all_of c.args.known.now) c.args.known.now.count [] c.requires.next) (subst (λ b. IsRoot (clauses_of c.args.known.now) c.args.watches.now.pairs.items c.args.watches.now.lists.items c.args.assignment.now.marks.items c.args.assignment.now.trail.items b) c.if-watches.true c.requires.ready))

pub returns-in_ok-add_none-in-IsTrue : goal.returns-in_ok-add_none-in-IsTrue
returns-in_ok-add_none-in-IsTrue c =
    let rest : IsRest (clauses_of c.args.known.now) c.args.watches.now.pairs.items c.add_none.new.self.lists.items c.args.assignment.now.marks.items c.args.assignment.now.trail.items = subst (λ z. IsRest (clauses_of c.args.known.now) c.args.watches.now.pairs.items z c.args.assignment.now.marks.items c.args.assignment.now.trail.items) (sym c.add_none.ensures.lists) (subst (λ b. IsRoot (clauses_of c.args.known.now) c.args.watches.now.pairs.items c.args.watches.now.lists.items c.args.assignment.now.marks.items c.args.assignment.now.trail.items b) c.if-watches.false c.requires.ready) in
    subst (λ b. IsRoot (more_of c.args.known.now) c.add_none.new.self.pairs.items c.add_none.new.self.lists.items c.args.assignment.now.marks.items c.args.assignment.now.trail.items b) (sym (c.add_none.ensures.refuted ∙ c.if-watches.false)) (rest_true (clauses_of c.args.known.now) (more_of c.args.known.now) c.args.watches.now.pairs.items c.add_none.new.self.pairs.items c.add_none.new.self.lists.items c.args.assignment.now.marks.items c.args.assignment.now.trail.items (get_or (all_of c.args.known.now) c.args.known.now.count []) (take_more (all_of c.args.known.now) c.args.known.now.count [] c.requires.next) rest c.in_ok-add_none-in-IsTrue.ensures.pairs c.in-IsTrue.ensures.0 (subst (λ z. Contains z c.in-IsTrue.ensures.0) c.any.ensures.value c.in-IsTrue.ensures.1) c.in-IsTrue.ensures.2)

pub returns-in-IsFalse : goal.returns-in-IsFalse
returns-in-IsFalse c =
    root_false (clauses_of c.args.known.now) (more_of c.args.known.now) c.args.watches.now.pairs.items c.args.watches.now.pairs.items c.args.watches.now.lists.items c.args.assignment.now.marks.items c.args.assignment.now.trail.items (get_or (all_of c.args.known.now) c.args.known.now.count []) (take_more (all_of c.args.known.now) c.args.known.now.count [] c.requires.next) (subst (λ b. IsRoot (clauses_of c.args.known.now) c.args.watches.now.pairs.items c.args.watches.now.lists.items c.args.assignment.now.marks.items c.args.assignment.now.trail.items b) c.if-watches.false c.requires.ready) (subst (λ z. IsFalsified flipped (Has c.args.assignment.now.marks.items) z) c.any.ensures.value c.in-IsFalse.ensures)

pub add_unit-requires-clause-unit : goal.add_unit-requires-clause-unit
add_unit-requires-clause-unit c = subst (λ z. IsUnit c.args.assignment.now.marks.items z c.in-Unit.literal) c.any.ensures.value c.in-Unit.ensures

pub add_unit-requires-clause-rests : goal.add_unit-requires-clause-rests
add_unit-requires-clause-rests c = (subst (λ b. IsRoot (clauses_of c.args.known.now) c.args.watches.now.pairs.items c.args.watches.now.lists.items c.args.assignment.now.marks.items c.args.assignment.now.trail.items b) c.if-watches.false c.requires.ready)

pub add_pair-requires-clause-sized : goal.add_pair-requires-clause-sized
add_pair-requires-clause-sized c = (subst (λ b. IsRoot (clauses_of c.args.known.now) c.args.watches.now.pairs.items c.args.watches.now.lists.items c.args.assignment.now.marks.items c.args.assignment.now.trail.items b) c.if-watches.false c.requires.ready).state.sized

pub add_pair-requires-clause-first : goal.add_pair-requires-clause-first
add_pair-requires-clause-first c = c.in-Long.ensures.0.first_small

pub add_pair-requires-clause-second : goal.add_pair-requires-clause-second
add_pair-requires-clause-second c = c.in-Long.ensures.0.second_small

pub returns-in_ok-add_pair-in-Long : goal.returns-in_ok-add_pair-in-Long
returns-in_ok-add_pair-in-Long c =
    subst (λ b. IsRoot (more_of c.args.known.now) c.add_pair.new.self.pairs.items c.add_pair.new.self.lists.items c.args.assignment.now.marks.items c.args.assignment.now.trail.items b) (sym (c.add_pair.ensures.refuted ∙ c.if-watches.false)) (rest_long (clauses_of c.args.known.now) (more_of c.args.known.now) c.args.watches.now.pairs.items c.add_pair.new.self.pairs.items c.args.watches.now.lists.items c.args.assignment.now.marks.items c.args.assignment.now.trail.items (get_or (all_of c.args.known.now) c.args.known.now.count []) (take_more (all_of c.args.known.now) c.args.known.now.count [] c.requires.next) (subst (λ b. IsRoot (clauses_of c.args.known.now) c.args.watches.now.pairs.items c.args.watches.now.lists.items c.args.assignment.now.marks.items c.args.assignment.now.trail.items b) c.if-watches.false c.requires.ready) c.in-Long.pair c.add_pair.new.self.lists.items c.in_ok-add_pair-in-Long.ensures.pairs c.in_ok-add_pair-in-Long.ensures.lists (subst (λ z. IsPairOf z c.in-Long.pair) c.any.ensures.value c.in-Long.ensures.0) (subst (λ z. IsOpen c.args.assignment.now.marks.items z c.in-Long.pair.first) c.any.ensures.value c.in-Long.ensures.1) (subst (λ z. IsOpen c.args.assignment.now.marks.items z c.in-Long.pair.second) c.any.ensures.value c.in-Long.ensures.2))
