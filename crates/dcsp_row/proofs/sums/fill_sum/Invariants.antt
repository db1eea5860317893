use Rattle.dcsp_row.specs.Rows.{MarksBelow}
use Rattle.dcsp_row.specs.Lines.{is_off}
use Rattle.dcsp_row.proofs.sums.fill_sum.Given as goal

abbrev pub invariant-loop-place : goal.invariant-loop-place
invariant-loop-place l = MarksBelow (is_off l.opened) l.domain l.place l.row
