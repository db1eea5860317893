use Rattle.std.proofs.Common.{sym, subst, []}
use Rattle.rup_check.specs.Watches.{IsRoot}
use Rattle.rup_check.proofs.StartLaws.{rest_none}
use Rattle.rup_check.proofs.check.verdict.Goals as goal

pub add_formula-requires-clause-ready : goal.add_formula-requires-clause-ready
add_formula-requires-clause-ready c =
    subst (λ b. IsRoot [] c.in_ok-watches.watches.pairs.items c.in_ok-watches.watches.lists.items c.in_ok-assignment.assignment.marks.items c.in_ok-assignment.assignment.trail.items b) (sym c.in_ok-watches.ensures.refuted)
    (rest_none c.in_ok-watches.watches.pairs.items c.in_ok-watches.watches.lists.items c.in_ok-assignment.assignment.marks.items c.in_ok-assignment.assignment.trail.items c.in_ok-watches.ensures.pairs c.in_ok-watches.ensures.lists c.in_ok-assignment.ensures.assigned c.in_ok-assignment.ensures.empty)
