use Rattle.std.proofs.lemmas.Result.{err_from_is_err_and}
use Rattle.fzn_token.specs.declared.token.Mark.TheVariants as mark
use Rattle.fzn_item.specs.Productions.{IsListOf}
use Rattle.fzn_item.specs.Exprs.{IsAtom, IsExpr}
use Rattle.fzn_item.proofs.ExprLaws.{passes_on, atom_unique, list_expr_fails, one_expr_fails}
use Rattle.fzn_item.proofs.expr.ExprForm.read.Goals as goal

pub returns-in_err-atoms-in-Some-clause-reads : goal.returns-in_err-atoms-in-Some-clause-reads
returns-in_err-atoms-in-Some-clause-reads c =
    let p = err_from_is_err_and c.from_residual.result c.from_residual.ensures.1 in
    rw (p.1, p.2) (passes_on (IsListOf IsAtom mark.CloseBracket) IsExpr c.in-Some.rest.now c.args.tokens.now _ (list_expr_fails c.args.tokens.now c.in-Some.bracket c.in-Some.rest.now c.in-Some.ensures.reads) c.in_err-atoms-in-Some.ensures.reads)

pub returns-in_err-one-in-None-clause-reads : goal.returns-in_err-one-in-None-clause-reads
returns-in_err-one-in-None-clause-reads c =
    let p = err_from_is_err_and c.from_residual-in_err-one-in-None.result c.from_residual-in_err-one-in-None.ensures.1 in
    rw (p.1, p.2) (passes_on IsAtom IsExpr c.args.tokens.now c.args.tokens.now _ (one_expr_fails c.args.tokens.now c.in-None.ensures.reads) c.in_err-one-in-None.ensures.reads)

pub list_of-requires-clause-unique : goal.list_of-requires-clause-unique
list_of-requires-clause-unique c = atom_unique
