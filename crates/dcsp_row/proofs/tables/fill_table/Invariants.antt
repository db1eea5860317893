use Rattle.std.proofs.Common.{◌≡◌, ◌<◌, ℕ, false, not, length}
use Rattle.std.specs.Prelude.{if◌then◌else◌, slice_index_or}
use Rattle.std.specs.Ordering.{int_eq}
use Rattle.dcsp_meaning.specs.Rows.{is_among_rows}
use Rattle.dcsp_row.specs.Rows.{own_at}
use Rattle.dcsp_row.specs.Tables.{values_at}
use Rattle.dcsp_row.proofs.tables.fill_table.Given as goal

abbrev pub invariant-loop-number : goal.invariant-loop-number
invariant-loop-number g l = record {
  size : length l.marks ≡ length l.domain;
  marks : (place : ℕ) → place < length l.domain →
      let known = g.L.Lookup.values l.open_var.lookup.now in
      let value = own_at l.domain place in
      slice_index_or l.marks place false ≡ (if is_among_rows int_eq (values_at l.open_var.var known l.rule.row.now value) (values_at l.open_var.var known l.rule.table.now value) l.number then not l.rule.told else l.rule.told);
}
