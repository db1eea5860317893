use Rattle.abt_session.proofs.Pieces.{line_put, memory_told}
use Rattle.line_cnf.proofs.answer.tell.Goals as goal

pub returns-in_err-push_outcome : goal.returns-in_err-push_outcome
returns-in_err-push_outcome g c = λ folder. memory_told _ _ _ c.from_residual.ensures

pub returns : goal.returns
returns g c = λ folder. line_put _ _ c.deref.ensures.value c.in_ok-push_outcome.ensures c.new-text.ensures.items (c.put.ensures folder)
