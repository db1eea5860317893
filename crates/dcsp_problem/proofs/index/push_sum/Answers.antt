use Rattle.dcsp_problem.proofs.Reading.{variables_of_total, variables_of_told}
use Rattle.dcsp_problem.proofs.index.push_sum.Goals as goal

pub returns-in-None : goal.returns-in-None
returns-in-None c =
    rw c.in-None.is (variables_of_total _ _ _ c.args.terms.now c.args.total c.requires c.in_ok-push_variables.ensures c.in_ok-push_variable.ensures)

pub returns-in_ok-push_variable-in-Some : goal.returns-in_ok-push_variable-in-Some
returns-in_ok-push_variable-in-Some c =
    rw c.in-Some.is (variables_of_told _ _ _ _ c.args.terms.now c.args.total c.in-Some.truth c.requires c.in_ok-push_variables.ensures c.in_ok-push_variable.ensures c.in_ok-push_variable-in-Some.ensures)
