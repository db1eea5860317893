use Rattle.std.proofs.Common.{◌≡◌, ◌++◌, take}
use Rattle.cnf_front.specs.Clauses.{clause_of}
use Rattle.line_cnf.proofs.clause_row.push_clause.Given as goal

abbrev pub invariant-loop-pair : goal.invariant-loop-pair
invariant-loop-pair l = l.row ≡ l.initial.row ++ clause_of (take l.pair-index l.pair-items)
