use Rattle.std.proofs.Common.{◌≡◌, map}
use Rattle.dcsp_defs.specs.Words.{below}
use Rattle.dcsp_rule.specs.Problems.{csp_of}
use Rattle.line_export.specs.Clauses.{value_clause, with_clauses}
use Rattle.line_export.proofs.formula.add_values.Given as goal

abbrev pub invariant-loop-var : goal.invariant-loop-var
invariant-loop-var l = l.clauses ≡ with_clauses l.initial.clauses (map (value_clause (csp_of l.atoms.problem.now)) (below l.var))
