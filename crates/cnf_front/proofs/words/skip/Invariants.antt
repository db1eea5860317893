use Rattle.std.proofs.Common.{◌≡◌, ◌+◌, ◌≤◌, length}
use Rattle.cnf_front.specs.Dimacs.{words}
use Rattle.cnf_front.proofs.words.skip.Given as goal

abbrev pub invariant-loop-here : goal.invariant-loop-here
invariant-loop-here l = record {
  same : words l.here.stand l.here.at l.here.bytes.now ≡ words l.from.stand l.from.at l.from.bytes.now;
  end : l.here.at + length l.here.bytes.now ≡ l.from.at + length l.from.bytes.now;
  shorter : length l.here.bytes.now ≤ length l.from.bytes.now;
}

abbrev pub decreases-loop-here : goal.decreases-loop-here
decreases-loop-here l = length l.here.bytes.now
