use Rattle.abt_session.proofs.Pieces.{line_put, memory_told}
use Rattle.line_solve.proofs.Making.{line_traced}
use Rattle.line_solve.proofs.answer.put_round.Goals as goal

pub returns-in_err-push_round : goal.returns-in_err-push_round
returns-in_err-push_round g c = λ folder. memory_told _ _ _ c.from_residual.ensures

pub returns : goal.returns
returns g c = λ folder. line_traced c.args.trace c.args.number c.if-not-trace.false (line_put _ _ c.deref.ensures.value c.in_ok-push_round.ensures c.new-text.ensures.items (c.put.ensures folder))
