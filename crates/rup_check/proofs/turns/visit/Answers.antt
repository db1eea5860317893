use Rattle.std.proofs.Common.{rules, arith, ◌≡◌, ◌≤◌, ◌<◌, ◌-◌, length, [], get_or, refl, ap, subst, sym, ◌∙◌}
use Rattle.std.proofs.lemmas.List.{get_or_default}
use Rattle.std.proofs.lemmas.List.Elements.{Contains-get_or}
use Rattle.std.specs.List.{Contains}
use Rattle.rup_check.specs.Kept.{clauses_of}
use Rattle.rup_check.specs.Watches.{IsTaken}
use Rattle.rup_check.proofs.VisitLaws.{below, in_lists, watch_at, out_of, turn_stays, turn_leaves, turn_false, opened_by, closed_by}
use Rattle.rup_check.proofs.RunLaws.{extends_same, extends_on}
use Rattle.rup_check.proofs.turns.visit.Goals as goal

pub loop-left-init : goal.loop-left-init
loop-left-init c =
    let all : c.len-left.result ≡ length c.take_list-list.result.items = search rules in
    record {
      assigned = c.requires.assigned;
      clean = c.requires.clean;
      grows = λ x h. h;
      sound = λ start s. s;
      trail = extends_same c.args.assignment.now.trail.items;
      refuted = refl;
      within = omega arith;
      out = out_of c.args.watches.now.lists.items c.take_list-list.new.lists.items c.args.literal c.requires.small c.requires.state.2.sized c.take_list-list.ensures.left;
      watch = opened_by (clauses_of c.args.known.now) c.args.watches.now.pairs.items c.args.watches.now.lists.items c.take_list-list.new.lists.items c.take_list-list.result.items c.len-left.result c.args.literal c.args.assignment.now.marks.items c.requires.small c.take_list-list.ensures.taken all c.take_list-list.ensures.left;
    }

pub take_turn-requires-clause-entry : goal.take_turn-requires-clause-entry
take_turn-requires-clause-entry c =
    let within : c.loop-left.left - 1 < length c.loop-left.list.items = below c.loop-left.left (length c.loop-left.list.items) c.loop-left-test.true c.loop-left.invariant.within in
    let number_is : c.index-number.result.now ≡ get_or c.loop-left.list.items (c.loop-left.left - 1) 0 = c.index-number.ensures ∙ get_or_default c.loop-left.list.items (c.loop-left.left - 1) c.index-number.result.now 0 within in
    (c.loop-left.invariant.watch c.requires.state.0 c.requires.state.1 [] c.requires.state.2).left c.index-number.result.now (subst (λ z. Contains c.loop-left.list.items z) (sym number_is) (Contains-get_or c.loop-left.list.items (c.loop-left.left - 1) 0 within))

pub take_turn-requires-clause-counted : goal.take_turn-requires-clause-counted
take_turn-requires-clause-counted c = (c.loop-left.invariant.watch c.requires.state.0 c.requires.state.1 [] c.requires.state.2).counted

pub take_turn-requires-clause-sized : goal.take_turn-requires-clause-sized
take_turn-requires-clause-sized c = (c.loop-left.invariant.watch c.requires.state.0 c.requires.state.1 [] c.requires.state.2).sized

pub take_turn-requires-clause-false_ : goal.take_turn-requires-clause-false_
take_turn-requires-clause-false_ c = c.loop-left.invariant.grows _ c.requires.false_

pub loop-left-preserved-in-Stays : goal.loop-left-preserved-in-Stays
loop-left-preserved-in-Stays c =
    let within : c.loop-left.left - 1 < length c.loop-left.list.items = below c.loop-left.left (length c.loop-left.list.items) c.loop-left-test.true c.loop-left.invariant.within in
    let number_is : c.index-number.result.now ≡ get_or c.loop-left.list.items (c.loop-left.left - 1) 0 = c.index-number.ensures ∙ get_or_default c.loop-left.list.items (c.loop-left.left - 1) c.index-number.result.now 0 within in
    let taken = subst (λ b. IsTaken (clauses_of c.args.known.now) c.index-number.result.now c.args.literal c.loop-left.watches.pairs.items c.loop-left.watches.lists.items c.loop-left.assignment.marks.items c.take_turn.new.watches.pairs.items c.take_turn.new.watches.lists.items c.take_turn.new.assignment.marks.items b) c.in-Stays.is c.in_ok-take_turn.ensures.taken in
    record {
      assigned = c.in_ok-take_turn.ensures.assigned;
      clean = c.in_ok-take_turn.ensures.clean;
      grows = λ x h. c.in_ok-take_turn.ensures.grows x (c.loop-left.invariant.grows x h);
      sound = λ start s. c.in_ok-take_turn.ensures.sound start (c.loop-left.invariant.sound start s);
      trail = extends_on c.args.assignment.now.trail.items c.loop-left.assignment.trail.items c.take_turn.new.assignment.trail.items c.loop-left.invariant.trail c.in_ok-take_turn.ensures.trail;
      refuted = c.take_turn.ensures.refuted ∙ c.loop-left.invariant.refuted;
      within = omega arith;
      out = c.in_ok-take_turn.ensures.out ∙ c.loop-left.invariant.out;
      watch = λ units base done s. turn_stays (clauses_of c.args.known.now) c.index-number.result.now c.args.literal c.loop-left.watches.pairs.items c.take_turn.new.watches.pairs.items c.loop-left.watches.lists.items c.take_turn.new.watches.lists.items c.loop-left.assignment.marks.items c.take_turn.new.assignment.marks.items c.loop-left.list.items (c.loop-left.left - 1) within number_is taken units base done (watch_at (clauses_of c.args.known.now) c.loop-left.watches.pairs.items c.loop-left.watches.lists.items units base c.loop-left.list.items c.loop-left.left c.args.literal c.loop-left.assignment.marks.items done c.loop-left-test.true (c.loop-left.invariant.watch units base done s));
    }

pub loop-left-preserved : goal.loop-left-preserved
loop-left-preserved c =
    let within : c.loop-left.left - 1 < length c.loop-left.list.items = below c.loop-left.left (length c.loop-left.list.items) c.loop-left-test.true c.loop-left.invariant.within in
    let number_is : c.index-number.result.now ≡ get_or c.loop-left.list.items (c.loop-left.left - 1) 0 = c.index-number.ensures ∙ get_or_default c.loop-left.list.items (c.loop-left.left - 1) c.index-number.result.now 0 within in
    let taken = subst (λ b. IsTaken (clauses_of c.args.known.now) c.index-number.result.now c.args.literal c.loop-left.watches.pairs.items c.loop-left.watches.lists.items c.loop-left.assignment.marks.items c.take_turn.new.watches.pairs.items c.take_turn.new.watches.lists.items c.take_turn.new.assignment.marks.items b) c.in-Leaves.is c.in_ok-take_turn.ensures.taken in
    let shorter : c.loop-left.left - 1 ≤ length c.swap_remove.new.self.items = search rules in
    record {
      assigned = c.in_ok-take_turn.ensures.assigned;
      clean = c.in_ok-take_turn.ensures.clean;
      grows = λ x h. c.in_ok-take_turn.ensures.grows x (c.loop-left.invariant.grows x h);
      sound = λ start s. c.in_ok-take_turn.ensures.sound start (c.loop-left.invariant.sound start s);
      trail = extends_on c.args.assignment.now.trail.items c.loop-left.assignment.trail.items c.take_turn.new.assignment.trail.items c.loop-left.invariant.trail c.in_ok-take_turn.ensures.trail;
      refuted = c.take_turn.ensures.refuted ∙ c.loop-left.invariant.refuted;
      within = shorter;
      out = c.in_ok-take_turn.ensures.out ∙ c.loop-left.invariant.out;
      watch = λ units base done s. turn_leaves (clauses_of c.args.known.now) c.index-number.result.now c.args.literal c.loop-left.watches.pairs.items c.take_turn.new.watches.pairs.items c.loop-left.watches.lists.items c.take_turn.new.watches.lists.items c.loop-left.assignment.marks.items c.take_turn.new.assignment.marks.items c.loop-left.list.items (c.loop-left.left - 1) within number_is c.swap_remove.new.self.items c.swap_remove.result c.swap_remove.ensures.value c.swap_remove.ensures.items taken units base done (watch_at (clauses_of c.args.known.now) c.loop-left.watches.pairs.items c.loop-left.watches.lists.items units base c.loop-left.list.items c.loop-left.left c.args.literal c.loop-left.assignment.marks.items done c.loop-left-test.true (c.loop-left.invariant.watch units base done s));
    }

pub put_list-requires : goal.put_list-requires
put_list-requires c =
    let taken = subst (λ b. IsTaken (clauses_of c.args.known.now) c.index-number.result.now c.args.literal c.loop-left.watches.pairs.items c.loop-left.watches.lists.items c.loop-left.assignment.marks.items c.take_turn.new.watches.pairs.items c.take_turn.new.watches.lists.items c.take_turn.new.assignment.marks.items b) c.in-IsFalse.is c.in_ok-take_turn.ensures.taken in
    record { in_range = in_lists c.args.literal c.take_turn.new.watches.lists.items c.requires.small (ap length taken.1 ∙ (c.loop-left.invariant.watch c.requires.state.0 c.requires.state.1 [] c.requires.state.2).sized) }

pub returns-in-IsFalse-clause-visited : goal.returns-in-IsFalse-clause-visited
returns-in-IsFalse-clause-visited c = λ units base done s.
    let within : c.loop-left.left - 1 < length c.loop-left.list.items = below c.loop-left.left (length c.loop-left.list.items) c.loop-left-test.true c.loop-left.invariant.within in
    let number_is : c.index-number.result.now ≡ get_or c.loop-left.list.items (c.loop-left.left - 1) 0 = c.index-number.ensures ∙ get_or_default c.loop-left.list.items (c.loop-left.left - 1) c.index-number.result.now 0 within in
    let taken = subst (λ b. IsTaken (clauses_of c.args.known.now) c.index-number.result.now c.args.literal c.loop-left.watches.pairs.items c.loop-left.watches.lists.items c.loop-left.assignment.marks.items c.take_turn.new.watches.pairs.items c.take_turn.new.watches.lists.items c.take_turn.new.assignment.marks.items b) c.in-IsFalse.is c.in_ok-take_turn.ensures.taken in
    turn_false (clauses_of c.args.known.now) c.index-number.result.now c.args.literal c.loop-left.watches.pairs.items c.take_turn.new.watches.pairs.items c.loop-left.watches.lists.items c.take_turn.new.watches.lists.items c.loop-left.assignment.marks.items c.take_turn.new.assignment.marks.items c.loop-left.list.items (c.loop-left.left - 1) within number_is c.put_list.new.lists.items c.requires.small c.loop-left.invariant.out c.put_list.ensures c.in_ok-take_turn.ensures.grows taken units base done (watch_at (clauses_of c.args.known.now) c.loop-left.watches.pairs.items c.loop-left.watches.lists.items units base c.loop-left.list.items c.loop-left.left c.args.literal c.loop-left.assignment.marks.items done c.loop-left-test.true (c.loop-left.invariant.watch units base done s))

pub put_list-requires-2 : goal.put_list-requires-2
put_list-requires-2 c = record { in_range = in_lists c.args.literal c.loop-left.watches.lists.items c.requires.small (c.loop-left.invariant.watch c.requires.state.0 c.requires.state.1 [] c.requires.state.2).sized }

pub returns-clause-visited : goal.returns-clause-visited
returns-clause-visited c = λ units base done s.
    let none : c.loop-left.left ≡ 0 = search rules in
    closed_by (clauses_of c.args.known.now) c.loop-left.watches.pairs.items c.loop-left.watches.lists.items c.put_list-2.new.lists.items units base c.loop-left.list.items c.loop-left.left c.args.literal c.loop-left.assignment.marks.items done c.requires.small c.loop-left.invariant.out c.put_list-2.ensures (c.loop-left.invariant.grows _ c.requires.false_) none (c.loop-left.invariant.watch units base done s)
