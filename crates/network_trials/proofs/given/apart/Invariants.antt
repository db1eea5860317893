use Rattle.std.proofs.Common.{◌≡◌, length}
use Rattle.network_trials.proofs.given.apart.Given as goal

abbrev pub invariant-loop-pair : goal.invariant-loop-pair
invariant-loop-pair g l = length l.builder.domains ≡ 3
