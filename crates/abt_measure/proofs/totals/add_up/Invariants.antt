use Rattle.std.proofs.Common.{take}
use Rattle.abt_measure.specs.Totals.{AreSums}
use Rattle.abt_measure.proofs.totals.add_up.Given as goal

abbrev pub invariant-loop-row : goal.invariant-loop-row
invariant-loop-row l = AreSums (take l.row-index l.rows) l.sum
