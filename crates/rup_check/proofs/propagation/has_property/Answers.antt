use Rattle.std.proofs.Common.{subst, sym, ◌∙◌}
use Rattle.rup_check.specs.Kept.{clauses_of}
use Rattle.rup_check.specs.Watches.{IsRoot}
use Rattle.rup_check.proofs.EndLaws.{answer_refuted}
use Rattle.rup_check.proofs.propagation.has_property.Goals as goal

pub returns-then-watches-clause-found : goal.returns-then-watches-clause-found
returns-then-watches-clause-found c = answer_refuted (clauses_of c.args.known.now) c.args.clause.now (subst (λ b. IsRoot (clauses_of c.args.known.now) c.args.watches.now.pairs.items c.args.watches.now.lists.items c.args.assignment.now.marks.items c.args.assignment.now.trail.items b) c.if-watches.true c.requires.ready)

pub has_conflict-requires-clause-rests : goal.has_conflict-requires-clause-rests
has_conflict-requires-clause-rests c = (subst (λ b. IsRoot (clauses_of c.args.known.now) c.args.watches.now.pairs.items c.args.watches.now.lists.items c.args.assignment.now.marks.items c.args.assignment.now.trail.items b) c.if-watches.false c.requires.ready)

pub returns-clause-ready : goal.returns-clause-ready
returns-clause-ready c =
    subst (λ b. IsRoot (clauses_of c.args.known.now) c.has_conflict.new.watches.pairs.items c.has_conflict.new.watches.lists.items c.has_conflict.new.assignment.marks.items c.has_conflict.new.assignment.trail.items b) (sym (c.has_conflict.ensures.refuted ∙ c.if-watches.false)) c.in_ok-found.ensures.rests
