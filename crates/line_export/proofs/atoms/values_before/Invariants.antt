use Rattle.std.proofs.Common.{◌≡◌, map}
use Rattle.dcsp_defs.specs.Words.{below}
use Rattle.dcsp_rule.specs.Problems.{csp_of}
use Rattle.line_export.specs.Atoms.{values_before}
use Rattle.line_export.proofs.atoms.values_before.Given as goal

abbrev pub invariant-loop-var : goal.invariant-loop-var
invariant-loop-var l = record {
  before : l.before.items ≡ map (values_before (csp_of l.problem)) (below l.var);
  count : l.count ≡ values_before (csp_of l.problem) l.var;
}
