use Rattle.dcsp_problem.proofs.Reading.{variables_of_three}
use Rattle.dcsp_problem.proofs.index.push_three.Goals as goal

pub returns : goal.returns
returns c = variables_of_three _ _ _ _ c.args.scalars.now c.args.first.now c.args.second.now c.requires c.in_ok-push_variables.ensures c.in_ok-push_variables-2.ensures c.in_ok-push_variables-3.ensures
