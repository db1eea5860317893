use Rattle.std.proofs.lemmas.Result.{err_from_is_err_and}
use Rattle.fzn_item.specs.Exprs.{IsLastExpr}
use Rattle.fzn_item.specs.Declarations.{RightSide}
use Rattle.fzn_item.proofs.ExprLaws.{passes_on}
use Rattle.fzn_item.proofs.DeclarationLaws.{right_fails}
use Rattle.fzn_item.proofs.declaration.right_side.Goals as goal

pub returns-in_err-right-in-Some-clause-reads : goal.returns-in_err-right-in-Some-clause-reads
returns-in_err-right-in-Some-clause-reads c =
    let p = err_from_is_err_and c.from_residual.result c.from_residual.ensures.1 in
    rw (p.1, p.2) (passes_on IsLastExpr (RightSide c.args.optional) c.in-Some.rest.now c.args.tokens.now _ (right_fails c.args.optional c.args.tokens.now c.in-Some.rest.now _ c.in-Some.ensures.reads) c.in_err-right-in-Some.ensures.reads)
