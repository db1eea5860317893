use Rattle.std.proofs.Common.{◌<◌, ◌≡◌, ℕ, get_or, false}
use Rattle.rup_check.proofs.assignment.has_true.Given as goal

abbrev pub invariant-loop-literal : goal.invariant-loop-literal
invariant-loop-literal l = (k : ℕ) → k < l.literal-index → get_or l.marks (get_or l.clause k 0) false ≡ false
