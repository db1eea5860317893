use Rattle.std.proofs.Common.{Ok}
use Rattle.cnf_front.proofs.ClauseLaws.{given_rules}
use Rattle.cnf_front.proofs.clauses.cnf_of.Goals as goal

pub returns-clause-clauses : goal.returns-clause-clauses
returns-clause-clauses c = rw c.in_ok-finish.ensures (given_rules c.deref.result.now (Ok c.in_ok-built.built) c.in_ok-built.ensures)
