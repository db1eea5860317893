use Rattle.std.proofs.lemmas.Result.{err_from_is_err_and}
use Rattle.fzn_item.proofs.DeclarationLaws.{no_index, no_of, element_refused, array_reads}
use Rattle.fzn_item.proofs.declaration.array.Goals as goal

pub returns-in_default-range-clause-reads : goal.returns-in_default-range-clause-reads
returns-in_default-range-clause-reads c = no_index c.args.text.now c.args.first c.args.tokens.now c.in-Some.rest.now _ c.in-Some.ensures.reads c.in_default-range.ensures.reads

pub returns-in_default-one_of-2-clause-reads : goal.returns-in_default-one_of-2-clause-reads
returns-in_default-one_of-2-clause-reads c = no_of c.args.text.now c.args.first c.args.tokens.now c.in-Some.rest.now _ c.in-Some.ensures.reads c.in-Some-range.index c.in-Some-range.rest.now c.in-Some-range.ensures.reads _ c.in-Some-one_of.rest.now c.in-Some-one_of.ensures.reads c.in_default-one_of-2.ensures.reads

pub returns-in_err-element-clause-reads : goal.returns-in_err-element-clause-reads
returns-in_err-element-clause-reads c =
    let p = err_from_is_err_and c.from_residual.result c.from_residual.ensures.1 in
    rw (p.1, p.2) (element_refused c.args.text.now c.args.first c.args.tokens.now c.in-Some.rest.now _ c.in-Some.ensures.reads c.in-Some-range.index c.in-Some-range.rest.now c.in-Some-range.ensures.reads c.in-Some-one_of.rest.now c.in-Some-one_of-2.rest.now _ _ c.in-Some-one_of.ensures.reads c.in-Some-one_of-2.ensures.reads _ c.in_err-element.ensures.reads)

pub returns-clause-reads : goal.returns-clause-reads
returns-clause-reads c = array_reads c.args.text.now c.args.first c.args.tokens.now c.in-Some.rest.now _ c.in-Some.ensures.reads c.in-Some-range.index c.in-Some-range.rest.now c.in-Some-range.ensures.reads c.in-Some-one_of.rest.now c.in-Some-one_of-2.rest.now _ _ c.in-Some-one_of.ensures.reads c.in-Some-one_of-2.ensures.reads c.in_ok-element.element c.in_ok-element.rest.now c.named.result c.in_ok-element.ensures.reads c.named.ensures.reads
