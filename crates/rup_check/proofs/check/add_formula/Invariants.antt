use Rattle.std.proofs.Common.{take}
use Rattle.rup_check.specs.Kept.{IsReady}
use Rattle.rup_check.proofs.check.add_formula.Given as goal

abbrev pub invariant-loop-count : goal.invariant-loop-count
invariant-loop-count l = IsReady (take l.count l.formula) l.watches l.assignment
