use Rattle.std.proofs.lemmas.Result.{err_from_is_err_and}
use Rattle.fzn_token.specs.declared.token.Mark.TheVariants as mark
use Rattle.fzn_item.specs.Productions.{IsListOf}
use Rattle.fzn_item.specs.Marks.{IsRange, IsRangeArgument}
use Rattle.fzn_item.proofs.ExprLaws.{passes_on}
use Rattle.fzn_item.proofs.MarkLaws.{no_ranges, no_end}
use Rattle.fzn_item.proofs.marking.range_argument.Goals as goal

pub returns-in_err-ranges-clause-reads : goal.returns-in_err-ranges-clause-reads
returns-in_err-ranges-clause-reads c =
    let p = err_from_is_err_and c.from_residual.result c.from_residual.ensures.1 in
    rw (p.1, p.2) (passes_on (IsListOf IsRange mark.CloseBracket) IsRangeArgument c.in-Some-one_of.rest.now c.args.tokens.now _ (no_ranges c.args.tokens.now c.in-Some.rest.now c.in-Some-one_of.rest.now _ _ c.in-Some.ensures.reads c.in-Some-one_of.ensures.reads) c.in_err-ranges.ensures.reads)

pub returns-in_default-one_of-2-clause-reads : goal.returns-in_default-one_of-2-clause-reads
returns-in_default-one_of-2-clause-reads c = no_end c.args.tokens.now c.in-Some.rest.now c.in-Some-one_of.rest.now _ _ c.in-Some.ensures.reads c.in-Some-one_of.ensures.reads c.in_ok-ranges.ranges c.in_ok-ranges.rest.now c.in_ok-ranges.ensures.reads c.in_default-one_of-2.ensures.reads
