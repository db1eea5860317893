use Rattle.std.proofs.lemmas.Result.{err_from_is_err_and}
use Rattle.fzn_item.specs.Elements.{IsBase, ElementAfter}
use Rattle.fzn_item.proofs.ExprLaws.{passes_on}
use Rattle.fzn_item.proofs.ElementLaws.{variable_fails}
use Rattle.fzn_item.proofs.element.element_after.Goals as goal

pub returns-in_err-base-in-Var-clause-reads : goal.returns-in_err-base-in-Var-clause-reads
returns-in_err-base-in-Var-clause-reads c =
    let p = err_from_is_err_and c.from_residual.result c.from_residual.ensures.1 in
    rw (p.1, p.2) (passes_on IsBase (ElementAfter c.args.kind) c.args.tokens.now c.args.tokens.now _ (variable_fails c.args.kind c.in-Word.word c.args.tokens.now c.in-Word.is c.in-Var.is) c.in_err-base-in-Var.ensures.reads)
