use Rattle.std.proofs.lemmas.Result.{err_from_is_err_and}
use Rattle.fzn_item.proofs.ItemLaws.{goal_refused}
use Rattle.fzn_item.proofs.reading.solve.Goals as goal

pub returns-in_err-goal-clause-reads : goal.returns-in_err-goal-clause-reads
returns-in_err-goal-clause-reads c =
    let p = err_from_is_err_and c.from_residual-in_err-goal.result c.from_residual-in_err-goal.ensures.1 in
    rw (p.1, p.2) (goal_refused c.args.text.now c.args.first c.args.tokens.now c.in_ok-rest.rest.now _ _ c.in_ok-rest.ensures.reads c.in_err-goal.ensures.reads)
