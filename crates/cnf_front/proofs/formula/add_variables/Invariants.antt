use Rattle.std.proofs.Common.{◌≡◌, ◌++◌, map, take}
use Rattle.cnf_front.specs.Clauses.{literal_of}
use Rattle.cnf_front.proofs.formula.add_variables.Given as goal

abbrev pub invariant-loop-term : goal.invariant-loop-term
invariant-loop-term l = l.clause.items ≡ l.fn.clause.items ++ map literal_of (take l.term-index l.terms)
