use Rattle.std.specs.Prelude.{length, ⊤}
use Rattle.abt_trials.proofs.logs.drained.Given as goal

abbrev pub invariant-loop-entry : goal.invariant-loop-entry
invariant-loop-entry l = ⊤

abbrev pub decreases-loop-entry : goal.decreases-loop-entry
decreases-loop-entry l = length l.entries
