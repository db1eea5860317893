use Rattle.std.proofs.Common.{◌≡◌, ◌≤◌, length, take}
use Rattle.rup_check.specs.Assignments.{IsAssignment}
use Rattle.rup_check.proofs.assignment.undo.Given as goal

abbrev pub invariant-loop-assignment : goal.invariant-loop-assignment
invariant-loop-assignment l = record {
  assigned : IsAssignment l.assignment.marks.items l.assignment.trail.items;
  within : l.count ≤ length l.assignment.trail.items;
  trail : l.assignment.trail.items ≡ take (length l.assignment.trail.items) l.fn.assignment.trail.items;
  shorter : length l.assignment.trail.items ≤ length l.fn.assignment.trail.items;
}

abbrev pub decreases-loop-assignment : goal.decreases-loop-assignment
decreases-loop-assignment l = length l.assignment.trail.items
