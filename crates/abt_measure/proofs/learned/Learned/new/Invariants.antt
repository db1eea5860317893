use Rattle.std.proofs.Common.{◌≡◌, ℕ, [], length}
use Rattle.abt_measure.specs.Learning.{pairs_at}
use Rattle.abt_measure.proofs.learned.Learned.new.Given as goal

abbrev pub invariant-loop-agent : goal.invariant-loop-agent
invariant-loop-agent l = record {
  long : length l.lists.items ≡ l._agent;
  none : (k : ℕ) → pairs_at l.lists.items k ≡ [];
}
