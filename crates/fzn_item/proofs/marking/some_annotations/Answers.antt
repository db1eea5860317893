use Rattle.std.proofs.Common.{arith, sym, subst}
use Rattle.std.proofs.lemmas.Result.{err_from_is_err_and}
use Rattle.fzn_item.specs.Marks.{IsMarkedAnnotation, AreAnnotations}
use Rattle.fzn_item.proofs.ExprLaws.{passes_on}
use Rattle.fzn_item.proofs.MarkLaws.{AreSoFar, one_more, no_annotation, all_read}
use Rattle.fzn_item.proofs.marking.some_annotations.Goals as goal

pub returns-in_err-next-clause-reads : goal.returns-in_err-next-clause-reads
returns-in_err-next-clause-reads c =
    let p = err_from_is_err_and c.from_residual.result c.from_residual.ensures.1 in
    rw (p.1, p.2) (passes_on (IsMarkedAnnotation c.args.text.now) (AreAnnotations c.args.text.now) c.in-Some.after.now c.args.tokens.now _
    (λ fails. c.loop-after.invariant.0.stops (no_annotation c.args.text.now c.loop-after.rest.now c.in-Some.after.now _ c.in-Some.ensures.reads fails)) c.in_err-next.ensures.reads)

pub loop-after-preserved : goal.loop-after-preserved
loop-after-preserved c =
    let more = one_more c.args.text.now c.args.tokens.now c.loop-after.rest.now c.in-Some.after.now c.in_ok-next.after.now c.loop-after.marked c.in_ok-next.next _ c.loop-after.invariant.0 c.in-Some.ensures.reads c.in_ok-next.ensures.reads in
    (subst (λ m. AreSoFar c.args.text.now c.args.tokens.now m c.in_ok-next.after.now) (sym c.first_mark-marked.ensures) more, omega (arith, c.loop-after.invariant.1, c.in-Some.ensures.shorter, c.in_ok-next.ensures.shorter))

pub returns-clause-reads : goal.returns-clause-reads
returns-clause-reads c = all_read c.args.text.now c.args.tokens.now c.loop-after.rest.now c.loop-after.marked c.loop-after.invariant.0 c.in_default.ensures.reads
