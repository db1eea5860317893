use Rattle.dcsp_order.proofs.OneOrder.{one_order}
use Rattle.line_cnf.proofs.Answers.{one_answer}
use Rattle.line_rewrite.proofs.OneCore.{one_core}
use Rattle.law_inputs.proofs.Verdicts.{verdict_exists}
use Rattle.law_inputs.proofs.Orders.{order_by_rule_exists}
use Rattle.law_inputs.proofs.Cores.{core_exists}
use Rattle.law_inputs.proofs.what_is_found_is_there.Goals as goal

pub returns-clause-verdicts : goal.returns-clause-verdicts
returns-clause-verdicts c = λ formula proof. let some = verdict_exists formula proof in record { value = some.0; is = some.1; one = one_answer formula proof }

pub returns-clause-orders : goal.returns-clause-orders
returns-clause-orders c = λ rule p. let some = order_by_rule_exists rule p in record { value = some.0; is = some.1; one = one_order rule p }

pub returns-clause-cores : goal.returns-clause-cores
returns-clause-cores c = λ steps. let some = core_exists steps in record { value = some.0; is = some.1; one = one_core steps }
