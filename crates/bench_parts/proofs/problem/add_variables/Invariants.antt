use Rattle.std.proofs.Common.{◌≡◌, length}
use Rattle.bench_parts.proofs.problem.add_variables.Given as goal

abbrev pub invariant-loop-variable : goal.invariant-loop-variable
invariant-loop-variable l = length l.builder.domains ≡ l._variable
