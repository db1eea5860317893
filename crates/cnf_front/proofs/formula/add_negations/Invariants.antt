use Rattle.std.proofs.Common.{◌≡◌, ◌++◌, map, take}
use Rattle.cnf_front.specs.Clauses.{negation_of}
use Rattle.cnf_front.proofs.formula.add_negations.Given as goal

abbrev pub invariant-loop-term : goal.invariant-loop-term
invariant-loop-term l = l.clause.items ≡ l.fn.clause.items ++ map negation_of (take l.term-index l.terms)
