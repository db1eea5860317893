use Rattle.std.proofs.Common.{◌≡◌}
use Rattle.network_trials.proofs.drawn.compare_with_higher.Given as goal

abbrev pub invariant-loop-higher : goal.invariant-loop-higher
invariant-loop-higher g l = l.builder.domains ≡ l.initial.builder.domains
