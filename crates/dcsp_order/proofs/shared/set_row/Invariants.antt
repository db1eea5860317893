use Rattle.std.proofs.Common.{take}
use Rattle.dcsp_order.specs.Shared.{is_in_row, Sets}
use Rattle.dcsp_order.proofs.shared.set_row.Given as goal

abbrev pub invariant-loop-column : goal.invariant-loop-column
invariant-loop-column l = Sets (is_in_row l.from (take l.column-index l.columns)) l.fn.flags.items l.flags.items
