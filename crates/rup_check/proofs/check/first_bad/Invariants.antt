use Rattle.std.proofs.Common.{◌<◌, ◌+◌, ◌++◌, ℕ, take, length}
use Rattle.rup_check.specs.Propagation.{IsGood}
use Rattle.rup_check.specs.Assignments.{flipped}
use Rattle.rup_check.specs.Kept.{IsReady}
use Rattle.rup_check.proofs.check.first_bad.Given as goal

abbrev pub invariant-loop-number : goal.invariant-loop-number
invariant-loop-number l = record {
  good : (k : ℕ) → k < l.number → IsGood flipped l.formula l.proof k;
  ready : IsReady (take (length l.formula + l.number) (l.formula ++ l.proof)) l.watches l.assignment;
}
