use Rattle.std.proofs.Common.{◌*◌}
use Rattle.dcsp_row.specs.Walks.{NoneBetween}
use Rattle.dcsp_row.proofs.row.Row.next_block.Given as goal

abbrev pub invariant-loop-block : goal.invariant-loop-block
invariant-loop-block l = NoneBetween l.self (l.from * 64) (l.block * 64)
