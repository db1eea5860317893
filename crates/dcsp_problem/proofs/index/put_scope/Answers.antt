use Rattle.dcsp_problem.proofs.Scopes.{scope_is_rising}
use Rattle.dcsp_problem.proofs.index.put_scope.Goals as goal

pub returns : goal.returns
returns c = λ variables r. scope_is_rising variables _ _ r c.make_set.ensures.rising (rw c.in_ok-push_rule.ensures at c.make_set.ensures.same)
