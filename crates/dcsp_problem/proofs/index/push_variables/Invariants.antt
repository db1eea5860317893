use Rattle.std.proofs.Common.{◌≡◌, ◌++◌, take}
use Rattle.std.specs.Prelude.{filter_map}
use Rattle.dcsp_rule.specs.Rules.{variable_of}
use Rattle.dcsp_problem.proofs.index.push_variables.Given as goal

abbrev pub invariant-loop-term : goal.invariant-loop-term
invariant-loop-term l = l.variables.items ≡ l.initial.variables.items ++ filter_map variable_of (take l.term-index l.terms)
