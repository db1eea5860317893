use Rattle.std.proofs.Common.{◌≡◌, length}
use Rattle.network_trials.proofs.drawn.problem.Given as goal

abbrev pub invariant-loop-var : goal.invariant-loop-var
invariant-loop-var g l = length l.builder.domains ≡ l.count
