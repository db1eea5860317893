use Rattle.std.proofs.Common.{◌*◌, ◌+◌, arith}
use Rattle.dcsp_row.proofs.WalkLaws.{none_joined, none_of_bits, some_of_bits}
use Rattle.dcsp_row.proofs.row.Row.next_block.Goals as goal

pub returns-then-bits-ne0-clause-some : goal.returns-then-bits-ne0-clause-some
returns-then-bits-ne0-clause-some c = some_of_bits c.args.self.now c.loop-block.block c.bits.result (λ none. omega (arith, none, c.if-bits-ne0.true)) (omega arith) c.bits.ensures

pub loop-block-preserved : goal.loop-block-preserved
loop-block-preserved c =
    let row = c.args.self.now in
    let block = c.loop-block.block in
    none_joined row (c.args.from * 64) (block * 64) ((block + 1) * 64) c.loop-block.invariant (none_of_bits row block c.bits.result (omega (arith, c.if-bits-ne0.false)) c.bits.ensures)
