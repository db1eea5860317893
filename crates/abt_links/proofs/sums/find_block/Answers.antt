use Rattle.std.proofs.Common.{sum, arith}
use Rattle.abt_links.proofs.Blocks.{next_block, some_left}
use Rattle.abt_links.proofs.sums.find_block.Goals as goal

pub find_from-requires-clause-some : goal.find_from-requires-clause-some
find_from-requires-clause-some c =
    some_left 16 c.args.blocks.now c.args.groups.now (sum c.args.blocks.now) c.loop-group.group c.loop-group.left (c.requires.groups (omega (arith, c.loop-group-test.true))) c.loop-group-test.true c.if-left-here.true

pub loop-group-preserved : goal.loop-group-preserved
loop-group-preserved c =
    next_block 16 c.args.blocks.now c.args.groups.now (sum c.args.blocks.now) c.loop-group.group c.loop-group.left c.args.number (c.requires.groups (omega (arith, c.loop-group-test.true))) c.loop-group-test.true c.if-left-here.false c.loop-group.invariant
