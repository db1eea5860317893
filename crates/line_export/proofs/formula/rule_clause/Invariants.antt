use Rattle.std.proofs.Common.{◌≡◌, map, take}
use Rattle.dcsp_rule.specs.Problems.{csp_of}
use Rattle.std.proofs.Common.{ℕ}
use Rattle.dcsp_defs.specs.Csp.{filled}
use Rattle.line_export.specs.Atoms.{lacks_value}
use Rattle.line_export.specs.Pairs.{given_by}
use Rattle.line_export.proofs.formula.rule_clause.Given as goal

abbrev pub invariant-loop-var : goal.invariant-loop-var
invariant-loop-var l = l.clause.items ≡ map (λ (k : ℕ). lacks_value (csp_of l.atoms.problem.now) k (filled (given_by l.given) k)) (take l.var-index l.var-items)
