use Rattle.std.proofs.lemmas.Result.{err_from_is_err_and}
use Rattle.fzn_token.specs.declared.token.Mark.TheVariants as mark
use Rattle.fzn_item.specs.Productions.{IsInteger, IsListOf}
use Rattle.fzn_item.specs.Exprs.{AtomAfter}
use Rattle.fzn_item.proofs.ExprLaws.{passes_on, listed_fails}
use Rattle.fzn_item.proofs.atom.other_after.Goals as goal

pub returns-in_err-values-in-OpenBrace-clause-reads : goal.returns-in_err-values-in-OpenBrace-clause-reads
returns-in_err-values-in-OpenBrace-clause-reads c =
    let p = err_from_is_err_and c.from_residual.result c.from_residual.ensures.1 in
    rw (p.1, p.2) (passes_on (IsListOf IsInteger mark.CloseBrace) (AtomAfter c.args.first.kind c.args.first) c.args.tokens.now c.args.tokens.now _ (listed_fails c.args.first.kind c.in-Mark.mark c.args.first c.args.tokens.now c.in-Mark.is c.in-OpenBrace.is) c.in_err-values-in-OpenBrace.ensures.reads)
