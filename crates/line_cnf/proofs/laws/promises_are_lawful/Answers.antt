use Rattle.line_cnf.proofs.Lawful.{rup_lawful}
use Rattle.line_cnf.proofs.CnfLawful.{cnf_lawful}
use Rattle.line_cnf.proofs.laws.promises_are_lawful.Goals as goal

pub returns-clause-rup : goal.returns-clause-rup
returns-clause-rup c = λ cnf proof. rup_lawful cnf proof

pub returns-clause-cnf : goal.returns-clause-cnf
returns-clause-cnf c = λ cnf proof seed. cnf_lawful cnf proof seed
