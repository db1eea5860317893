use Rattle.line_cnf.proofs.Satisfying.{formula_rules}
use Rattle.line_cnf.proofs.Domains.{formula_binary}
use Rattle.line_cnf.proofs.Accepting.{accepted}
use Rattle.line_cnf.proofs.laws.refutations_are_proofs.Goals as goal

pub returns : goal.returns
returns c = λ text p formula fine steps r. let b = formula_binary text p formula in accepted p b.0 b.1 (formula_rules text p formula) fine.rules steps r
