use Rattle.std.proofs.Common.{option_copied, rules}
use Rattle.dcsp_problem.proofs.WellFormed.{is_csp}
use Rattle.dcsp_order.specs.Told.{IsOrderFor}
use Rattle.dcsp_order.proofs.Telling.{well_ordered}
use Rattle.dcsp_order.proofs.told.moved.Goals as goal

pub returns-in_err-moved-in-Some-clause-csp : goal.returns-in_err-moved-in-Some-clause-csp
returns-in_err-moved-in-Some-clause-csp c =
    let good : IsOrderFor (option_copied c.args.order) c.args.problem.now = search rules in
    is_csp _ (well_ordered (option_copied c.args.order) c.args.problem.now c.denotes_csp.ensures.problem good)

pub returns-in_err-moved-in-Some-clause-problem : goal.returns-in_err-moved-in-Some-clause-problem
returns-in_err-moved-in-Some-clause-problem c =
    let good : IsOrderFor (option_copied c.args.order) c.args.problem.now = search rules in
    well_ordered (option_copied c.args.order) c.args.problem.now c.denotes_csp.ensures.problem good

pub returns-in_ok-moved-in-Some-clause-csp : goal.returns-in_ok-moved-in-Some-clause-csp
returns-in_ok-moved-in-Some-clause-csp c =
    let good : IsOrderFor (option_copied c.args.order) c.args.problem.now = search rules in
    is_csp _ (well_ordered (option_copied c.args.order) c.args.problem.now c.denotes_csp.ensures.problem good)
