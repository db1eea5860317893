use Rattle.std.proofs.Common.{◌≡◌, ◌++◌, map}
use Rattle.std.specs.Prelude.{flat_map}
use Rattle.dcsp_defs.specs.Words.{below}
use Rattle.rup_check.specs.ProofText.{literal_text}
use Rattle.line_cnf.specs.CnfRuns.{value_literal}
use Rattle.line_cnf.proofs.answer.push_values.Given as goal

abbrev pub invariant-loop-variable : goal.invariant-loop-variable
invariant-loop-variable l = l.into.items ≡ l.fn.into.items ++ flat_map literal_text (map (value_literal l.values) (below l.variable))
