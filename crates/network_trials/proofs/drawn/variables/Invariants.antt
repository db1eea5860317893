use Rattle.std.proofs.Common.{◌≡◌, length}
use Rattle.network_trials.proofs.drawn.variables.Given as goal

abbrev pub invariant-loop-variable : goal.invariant-loop-variable
invariant-loop-variable g l = length l.builder.domains ≡ l._variable
