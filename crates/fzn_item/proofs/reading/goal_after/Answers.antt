use Rattle.std.proofs.lemmas.Result.{err_from_is_err_and}
use Rattle.fzn_item.specs.Items.{GoalAfter}
use Rattle.fzn_item.specs.Exprs.{IsLastExpr}
use Rattle.fzn_item.proofs.ExprLaws.{passes_on}
use Rattle.fzn_item.proofs.ItemLaws.{minimize_fails, maximize_fails}
use Rattle.fzn_item.proofs.reading.goal_after.Goals as goal

pub returns-in_err-what-in-Minimize-clause-reads : goal.returns-in_err-what-in-Minimize-clause-reads
returns-in_err-what-in-Minimize-clause-reads c =
    let p = err_from_is_err_and c.from_residual.result c.from_residual.ensures.1 in
    rw (p.1, p.2) (passes_on IsLastExpr (GoalAfter c.args.word.kind c.args.word) c.args.tokens.now c.args.tokens.now _ (minimize_fails c.args.word.kind c.in-Word.word c.args.word c.args.tokens.now c.in-Word.is c.in-Minimize.is) c.in_err-what-in-Minimize.ensures.reads)

pub returns-in_err-what-in-Maximize-clause-reads : goal.returns-in_err-what-in-Maximize-clause-reads
returns-in_err-what-in-Maximize-clause-reads c =
    let p = err_from_is_err_and c.from_residual-in_err-what-in-Maximize.result c.from_residual-in_err-what-in-Maximize.ensures.1 in
    rw (p.1, p.2) (passes_on IsLastExpr (GoalAfter c.args.word.kind c.args.word) c.args.tokens.now c.args.tokens.now _ (maximize_fails c.args.word.kind c.in-Word.word c.args.word c.args.tokens.now c.in-Word.is c.in-Maximize.is) c.in_err-what-in-Maximize.ensures.reads)
