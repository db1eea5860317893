use Rattle.std.proofs.lemmas.Result.{err_from_is_err_and}
use Rattle.fzn_item.specs.Exprs.{IsExpr, IsLastExpr}
use Rattle.fzn_item.proofs.ExprLaws.{passes_on}
use Rattle.fzn_item.proofs.ExprLaws.{last_no_expr, last_no_end}
use Rattle.fzn_item.proofs.expr.last_expr.Goals as goal

pub returns-in_err-what-clause-reads : goal.returns-in_err-what-clause-reads
returns-in_err-what-clause-reads c =
    let p = err_from_is_err_and c.from_residual.result c.from_residual.ensures.1 in
    rw (p.1, p.2) (passes_on IsExpr IsLastExpr c.args.tokens.now c.args.tokens.now _ (last_no_expr c.args.tokens.now) c.in_err-what.ensures.reads)

pub returns-in_default-clause-reads : goal.returns-in_default-clause-reads
returns-in_default-clause-reads c = last_no_end c.args.tokens.now c.in_ok-what.rest.now c.in_ok-what.what c.in_ok-what.ensures.reads c.in_default.ensures.reads
