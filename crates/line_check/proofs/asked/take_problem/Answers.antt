use Rattle.abt_input.proofs.OtherKinds.{read_as, unread_as}
use Rattle.line_check.proofs.Taken.{left_taken, refused_taken}
use Rattle.line_check.proofs.asked.take_problem.Goals as goal

pub returns-in_err-problem : goal.returns-in_err-problem
returns-in_err-problem g c = unread_as _ c.from_residual.ensures c.in_err-problem.ensures (λ bytes h. refused_taken c.args.better bytes _ h)

pub returns : goal.returns
returns g c = read_as _ c.in_ok-problem.ensures (λ bytes h. left_taken c.args.better bytes c.in_ok-problem.problem c.bounded.result h c.bounded.ensures.leaves) c.bounded.ensures.no_fault
