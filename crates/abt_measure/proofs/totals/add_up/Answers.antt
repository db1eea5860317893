use Rattle.std.proofs.Common.{subst, List}
use Rattle.std.proofs.lemmas.List.{take_all}
use Rattle.abt_measure.specs.declared.row.Row.{Row}
use Rattle.abt_measure.specs.Totals.{AreSums}
use Rattle.abt_measure.proofs.TotalLaws.{are_totals}
use Rattle.abt_measure.proofs.totals.add_up.Goals as goal

pub returns : goal.returns
returns c = λ p acts h. are_totals p acts c.args.rows.now h c.loop-row.sum (subst (λ (l : List Row). AreSums l c.loop-row.sum) (take_all c.loop-row.row-index c.args.rows.now c.loop-row-test.false) c.loop-row.invariant)
