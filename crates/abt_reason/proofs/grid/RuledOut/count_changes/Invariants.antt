use Rattle.std.proofs.Common.{◌≡◌, ◌≤◌, ◌-◌, length}
use Rattle.abt_reason.specs.Grids.{mixed_rows, IsGrid}
use Rattle.abt_reason.proofs.grid.RuledOut.count_changes.Given as goal

abbrev pub invariant-loop-value : goal.invariant-loop-value
invariant-loop-value l = record {
  grid : IsGrid (mixed_rows l.values l.self.rows.items l.place l.new l.from) l.values l.self.counts.items l.self.firsts.items;
  counted : length l.self.counts.items ≡ l.values;
  rows : l.self.rows.items ≡ l.initial.self.rows.items;
  within : l.from ≤ l.values;
}

abbrev pub decreases-loop-value : goal.decreases-loop-value
decreases-loop-value l = l.values - l.from
