use Rattle.std.proofs.Common.{◌≡◌, length}
use Rattle.bench_parts.proofs.problem.add_rules.Given as goal

abbrev pub invariant-loop-higher : goal.invariant-loop-higher
invariant-loop-higher l = length l.builder.domains ≡ 52
