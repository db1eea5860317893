use Rattle.std.proofs.Common.{◌≤◌}
use Rattle.rup_check.specs.Looks.{IsClosedBetween}
use Rattle.rup_check.proofs.assignment.last_open.Given as goal

abbrev pub invariant-loop-left : goal.invariant-loop-left
invariant-loop-left l = record {
  low : l.low ≤ l.left;
  high : l.left ≤ l.high;
  closed : IsClosedBetween l.marks l.clause l.but l.left l.high;
}

abbrev pub decreases-loop-left : goal.decreases-loop-left
decreases-loop-left l = l.left
