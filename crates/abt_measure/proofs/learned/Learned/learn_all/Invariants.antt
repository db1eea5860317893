use Rattle.std.proofs.Common.{◌≡◌, length, take}
use Rattle.abt_measure.specs.Learning.{others, Learns}
use Rattle.abt_measure.proofs.learned.Learned.learn_all.Given as goal

abbrev pub invariant-loop-pair : goal.invariant-loop-pair
invariant-loop-pair l = record {
  long : length l.self ≡ length l.initial.self;
  learns : Learns l.agent (others l.agent (take l.pair-index l.pairs)) l.initial.self l.self;
}
