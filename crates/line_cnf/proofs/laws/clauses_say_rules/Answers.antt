use Rattle.line_cnf.proofs.Satisfying.{rules_are_clauses, solutions_satisfy}
use Rattle.line_cnf.proofs.laws.clauses_say_rules.Goals as goal

pub returns-clause-rules : goal.returns-clause-rules
returns-clause-rules c = rules_are_clauses

pub returns-clause-solutions : goal.returns-clause-solutions
returns-clause-solutions c = solutions_satisfy
