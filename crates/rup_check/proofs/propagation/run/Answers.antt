use Rattle.std.proofs.Common.{rules, arith, ◌<◌, ◌≤◌, length, subst, sym, refl, ◌∙◌, take}
use Rattle.std.proofs.lemmas.List.Elements.{All-get_or}
use Rattle.rup_check.specs.Kept.{clauses_of}
use Rattle.rup_check.specs.Watches.{IsVisited}
use Rattle.rup_check.proofs.StateLaws.{nothing_done}
use Rattle.rup_check.proofs.RunLaws.{run_more, run_over, extends_same, extends_on, extends_length, trail_false}
use Rattle.rup_check.proofs.propagation.run.Goals as goal

pub loop-head-init : goal.loop-head-init
loop-head-init c = record {
  assigned = c.requires.assigned;
  clean = c.requires.clean;
  grows = λ x h. h;
  sound = λ start s. s;
  trail = extends_same c.args.assignment.now.trail.items;
  refuted = refl;
  head = c.requires.from;
  state = λ units base s. s;
}

pub visit-requires-clause-state : goal.visit-requires-clause-state
visit-requires-clause-state c =
    let s = c.loop-head.invariant.state c.requires.state.0 c.requires.state.1 c.requires.state.2 in
    (c.requires.state.0, c.requires.state.1, nothing_done (clauses_of c.args.known.now) c.loop-head.watches.pairs.items c.loop-head.watches.lists.items c.requires.state.0 c.requires.state.1 c.loop-head.assignment.marks.items c.loop-head.assignment.marks.items (take c.loop-head.head c.loop-head.assignment.trail.items) s s.base_marked)

pub visit-requires-clause-false_ : goal.visit-requires-clause-false_
visit-requires-clause-false_ c =
    let l : c.loop-head.head < length c.loop-head.assignment.trail.items = search rules in
    let small : c.literal-literal.result ≤ 8191 = subst (λ x. x ≤ 8191) (sym c.literal-literal.ensures) (All-get_or (λ x. x ≤ 8191) c.loop-head.assignment.trail.items c.loop-head.head 0 l c.loop-head.invariant.assigned.small) in
    trail_false c.loop-head.assignment.marks.items c.loop-head.assignment.trail.items c.loop-head.head c.literal-literal.result c.flipped-negation.result c.loop-head.invariant.assigned.marked l c.literal-literal.ensures small c.flipped-negation.ensures

pub returns-then-branch-clause-ran : goal.returns-then-branch-clause-ran
returns-then-branch-clause-ran c = λ units base s.
    (subst (λ b. IsVisited (clauses_of c.args.known.now) c.flipped-negation.result c.loop-head.watches.pairs.items c.loop-head.watches.lists.items c.loop-head.assignment.marks.items c.visit.new.watches.pairs.items c.visit.new.watches.lists.items c.visit.new.assignment.marks.items b) c.if-branch.true c.in_ok-visit.ensures.visited) units base (take c.loop-head.head c.loop-head.assignment.trail.items) (c.loop-head.invariant.state units base s)

pub loop-head-preserved : goal.loop-head-preserved
loop-head-preserved c =
    let l : c.loop-head.head < length c.loop-head.assignment.trail.items = search rules in
    let small : c.literal-literal.result ≤ 8191 = subst (λ x. x ≤ 8191) (sym c.literal-literal.ensures) (All-get_or (λ x. x ≤ 8191) c.loop-head.assignment.trail.items c.loop-head.head 0 l c.loop-head.invariant.assigned.small) in
    let visited = subst (λ b. IsVisited (clauses_of c.args.known.now) c.flipped-negation.result c.loop-head.watches.pairs.items c.loop-head.watches.lists.items c.loop-head.assignment.marks.items c.visit.new.watches.pairs.items c.visit.new.watches.lists.items c.visit.new.assignment.marks.items b) c.if-branch.false c.in_ok-visit.ensures.visited in
    let longer : length c.loop-head.assignment.trail.items ≤ length c.visit.new.assignment.trail.items = extends_length c.loop-head.assignment.trail.items c.visit.new.assignment.trail.items c.in_ok-visit.ensures.trail in
    record {
      assigned = c.in_ok-visit.ensures.assigned;
      clean = c.in_ok-visit.ensures.clean;
      grows = λ x h. c.in_ok-visit.ensures.grows x (c.loop-head.invariant.grows x h);
      sound = λ start s. c.in_ok-visit.ensures.sound start (c.loop-head.invariant.sound start s);
      trail = extends_on c.args.assignment.now.trail.items c.loop-head.assignment.trail.items c.visit.new.assignment.trail.items c.loop-head.invariant.trail c.in_ok-visit.ensures.trail;
      refuted = c.visit.ensures.refuted ∙ c.loop-head.invariant.refuted;
      head = omega arith;
      state = λ units base s. run_more (clauses_of c.args.known.now) c.literal-literal.result c.flipped-negation.result c.loop-head.watches.pairs.items c.visit.new.watches.pairs.items c.loop-head.watches.lists.items c.visit.new.watches.lists.items c.loop-head.assignment.marks.items c.visit.new.assignment.marks.items c.loop-head.assignment.trail.items c.visit.new.assignment.trail.items c.loop-head.head c.in_ok-visit.ensures.trail l c.literal-literal.ensures small c.flipped-negation.ensures visited units base (c.loop-head.invariant.state units base s);
    }

pub returns-then-branch-clause-trail : goal.returns-then-branch-clause-trail
returns-then-branch-clause-trail c = extends_on c.args.assignment.now.trail.items c.loop-head.assignment.trail.items c.visit.new.assignment.trail.items c.loop-head.invariant.trail c.in_ok-visit.ensures.trail

pub returns-clause-ran : goal.returns-clause-ran
returns-clause-ran c = λ units base s.
    let l : length c.loop-head.assignment.trail.items ≤ c.loop-head.head = search rules in
    run_over (clauses_of c.args.known.now) c.loop-head.watches.pairs.items c.loop-head.watches.lists.items units base c.loop-head.assignment.marks.items c.loop-head.assignment.trail.items c.loop-head.head l (c.loop-head.invariant.state units base s)
