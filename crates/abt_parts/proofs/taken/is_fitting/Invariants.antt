use Rattle.std.proofs.Common.{ℕ, ◌<◌, ◌≤◌, length}
use Rattle.dcsp_defs.specs.Pairs.{var_at}
use Rattle.abt_parts.proofs.taken.is_fitting.Given as goal

abbrev pub invariant-loop-at : goal.invariant-loop-at
invariant-loop-at l = record {
  within : l.at ≤ length l.pairs;
  above : (k : ℕ) → l.at ≤ k → k < length l.pairs → l.known.var < var_at l.pairs k;
}

abbrev pub decreases-loop-at : goal.decreases-loop-at
decreases-loop-at l = l.at
