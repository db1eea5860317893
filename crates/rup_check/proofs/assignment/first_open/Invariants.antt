use Rattle.std.proofs.Common.{◌<◌, ℕ, get_or}
use Rattle.rup_check.specs.Assignments.{flipped, Has}
use Rattle.rup_check.proofs.assignment.first_open.Given as goal

abbrev pub invariant-loop-literal : goal.invariant-loop-literal
invariant-loop-literal l = (k : ℕ) → k < l.literal-index → Has l.marks (flipped (get_or l.clause k 0))
