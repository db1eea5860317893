use Rattle.std.proofs.Common.{◌≡◌, map, take}
use Rattle.dcsp_rule.specs.Problems.{csp_of}
use Rattle.line_export.specs.Atoms.{has_value}
use Rattle.line_export.proofs.formula.value_clause.Given as goal

abbrev pub invariant-loop-place : goal.invariant-loop-place
invariant-loop-place l = l.clause.items ≡ map (has_value (csp_of l.atoms.problem.now) l.var) (take l.place l.domain)
