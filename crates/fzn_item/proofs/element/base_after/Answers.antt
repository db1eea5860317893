use Rattle.std.proofs.lemmas.Result.{err_from_is_err_and}
use Rattle.fzn_token.specs.declared.token.Mark.TheVariants as mark
use Rattle.fzn_item.specs.Productions.{IsInteger, IsListOf}
use Rattle.fzn_item.specs.Elements.{BaseAfter}
use Rattle.fzn_item.proofs.ExprLaws.{passes_on}
use Rattle.fzn_item.proofs.ElementLaws.{base_listed_fails, set_reads}
use Rattle.fzn_item.proofs.element.base_after.Goals as goal

pub returns-in_err-values-in-OpenBrace-clause-reads : goal.returns-in_err-values-in-OpenBrace-clause-reads
returns-in_err-values-in-OpenBrace-clause-reads c =
    let p = err_from_is_err_and c.from_residual.result c.from_residual.ensures.1 in
    rw (p.1, p.2) (passes_on (IsListOf IsInteger mark.CloseBrace) (BaseAfter c.args.kind) c.args.tokens.now c.args.tokens.now _ (base_listed_fails c.args.kind c.in-Mark.mark c.args.tokens.now c.in-Mark.is c.in-OpenBrace.is) c.in_err-values-in-OpenBrace.ensures.reads)

pub returns-in-Some-clause-reads : goal.returns-in-Some-clause-reads
returns-in-Some-clause-reads c = set_reads c.args.kind c.in-Word.word c.args.tokens.now c.in-Some.rest.now _ c.set_element.result c.in-Word.is c.in-Set.is c.in-Some.ensures.reads c.set_element.ensures.reads
