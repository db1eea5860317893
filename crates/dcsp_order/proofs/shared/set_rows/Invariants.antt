use Rattle.std.proofs.Common.{take}
use Rattle.dcsp_order.specs.Shared.{is_in_rows, Sets}
use Rattle.dcsp_order.proofs.shared.set_rows.Given as goal

abbrev pub invariant-loop-var : goal.invariant-loop-var
invariant-loop-var l = Sets (is_in_rows l.width l.scope (take l.var-index l.scope)) l.fn.flags.items l.flags.items
