use Rattle.std.proofs.Common.{◌≡◌, map, take}
use Rattle.dcsp_rule.specs.Problems.{csp_of}
use Rattle.dcsp_defs.specs.declared.nogood.Pair.{Pair}
use Rattle.line_export.specs.Atoms.{lacks_value}
use Rattle.line_export.proofs.formula.nogood_clause.Given as goal

abbrev pub invariant-loop-pair : goal.invariant-loop-pair
invariant-loop-pair l = l.clause.items ≡ map (λ (y : Pair). lacks_value (csp_of l.atoms.problem.now) y.var y.value) (take l.pair-index l.pair-items)
