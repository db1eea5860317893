use Rattle.rup_check.specs.Assignments.{IsAssignment}
use Rattle.rup_check.specs.Watches.{Extends}
use Rattle.rup_check.proofs.EndLaws.{IsBeginningSoFar}
use Rattle.rup_check.proofs.assignment.begin.Given as goal

abbrev pub invariant-loop-literal : goal.invariant-loop-literal
invariant-loop-literal l = record {
  assigned : IsAssignment l.assignment.marks.items l.assignment.trail.items;
  trail : Extends l.fn.assignment.trail.items l.assignment.trail.items;
  so_far : IsBeginningSoFar l.fn.assignment.marks.items l.clause l.assignment.marks.items l.literal-index;
}
