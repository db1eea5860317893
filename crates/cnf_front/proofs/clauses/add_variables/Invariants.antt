use Rattle.cnf_front.specs.Formulas.{only_variables}
use Rattle.std.proofs.Common.{◌≡◌}
use Rattle.cnf_front.proofs.clauses.add_variables.Given as goal

abbrev pub invariant-loop-variable : goal.invariant-loop-variable
invariant-loop-variable l = l.builder ≡ only_variables l._variable
