use Rattle.abt_session.proofs.Pieces.{line_put, memory_told}
use Rattle.line_solve.proofs.answer.put_solution.Goals as goal

pub returns-in_err-push_values : goal.returns-in_err-push_values
returns-in_err-push_values g c = λ folder. memory_told _ _ _ c.from_residual.ensures

pub returns : goal.returns
returns g c = λ folder. line_put _ _ c.deref.ensures.value c.in_ok-push_values.ensures c.new-text.ensures.items (c.put.ensures folder)
