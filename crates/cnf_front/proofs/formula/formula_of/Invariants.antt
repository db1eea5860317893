use Rattle.std.proofs.Common.{◌≡◌, ◌++◌, map, take}
use Rattle.cnf_front.specs.Clauses.{rule_clause}
use Rattle.cnf_front.proofs.formula.formula_of.Given as goal

abbrev pub invariant-loop-number : goal.invariant-loop-number
invariant-loop-number l = l.into ≡ l.fn.into ++ take l.number (map rule_clause l.problem.rules)
