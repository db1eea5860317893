use Rattle.std.proofs.Common.{ap, arith}
use Rattle.std.specs.Int.Count.{ones}
use Rattle.abt_links.proofs.Ranks.{no_ones, one_more_bit}
use Rattle.abt_links.proofs.row.set_bits.Goals as goal

pub returns-then-others-eq0 : goal.returns-then-others-eq0
returns-then-others-eq0 c = omega (arith, ap ones c.if-others-eq0.true, no_ones, one_more_bit c.args.word (omega (arith, c.if-word-eq0.false)) (omega (arith, c.ranges.word)))

pub returns : goal.returns
returns c = one_more_bit c.args.word (omega (arith, c.if-word-eq0.false)) (omega (arith, c.ranges.word))
