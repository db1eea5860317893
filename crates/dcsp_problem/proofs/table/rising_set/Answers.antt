use Rattle.dcsp_problem.proofs.LowerLists.{set_is}
use Rattle.dcsp_problem.proofs.table.rising_set.Goals as goal

pub returns : goal.returns
returns c = λ n inside. set_is n _ _ inside c.make_set.ensures.rising (rw c.in_ok-set.ensures.items at c.make_set.ensures.same)
