use Rattle.dcsp_problem.proofs.WellFormed.{is_csp}
use Rattle.dcsp_problem.proofs.problem.Problem.vars.Goals as goal

pub returns-clause-csp : goal.returns-clause-csp
returns-clause-csp c = rw (← c.self.view_is) (is_csp _ c.self.invariant.problem)
