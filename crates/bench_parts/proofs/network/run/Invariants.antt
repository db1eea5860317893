use Rattle.std.proofs.Common.{◌≡◌, true}
use Rattle.bench_parts.proofs.network.run.Given as goal

abbrev pub invariant-loop-made : goal.invariant-loop-made
invariant-loop-made l = l.network.begun ≡ true
