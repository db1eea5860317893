use Rattle.std.proofs.Common.{◌≡◌, ◌+◌, ◌&&◌, drop, ℤ}
use Rattle.std.specs.Ordering.{int_eq}
use Rattle.dcsp_meaning.specs.Rows.{stands_at}
use Rattle.dcsp_row.specs.Tables.{fits, values_at, stands_open}
use Rattle.dcsp_row.proofs.tables.row_fits.Given as goal

abbrev pub invariant-loop-place : goal.invariant-loop-place
invariant-loop-place g l = (value : ℤ) →
    let known = g.L.Lookup.values l.open_var.lookup.now in
    let row = values_at l.open_var.var known l.row value in
    let table = values_at l.open_var.var known l.table value in
    (fits l.fit value && stands_at int_eq (drop l.place row) table (l.entry + l.place)) ≡ stands_open l.open_var.var known l.row l.table l.entry value
