use Rattle.std.proofs.Common.{◌≡◌, ℕ, [], length, get_or}
use Rattle.abt_measure.proofs.ways.Ways.new.Given as goal

abbrev pub invariant-loop-agent : goal.invariant-loop-agent
invariant-loop-agent l = (length l.lists.items ≡ l._agent) × ((b : ℕ) → get_or l.lists.items b [] ≡ [])
