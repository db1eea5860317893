use Rattle.std.proofs.Common.{◌-◌, ◌++◌, ◌∷◌, [], arith, inr, sym, subst, ap, ◌∙◌}
use Rattle.fzn_token.specs.declared.token.TokenKind.TheVariants as kind
use Rattle.fzn_item.specs.Readers.{Skips}
use Rattle.fzn_item.specs.Annotations.{IsInner, InnerAfter}
use Rattle.fzn_item.specs.Skipping.{IsSkipped}
use Rattle.fzn_item.proofs.ListsSoFar.{list_comma, list_close, list_no_form, list_no_mark, list_fails}
use Rattle.fzn_item.proofs.AnnotationLaws.{skipped_unique, inner_zero, inner_none, inner_reads, parentheses_read}
use Rattle.fzn_item.proofs.annotation.+annotations.Goals as goal

pub annotation_end-returns-in-Some-clause-reads : goal.annotation_end-returns-in-Some-clause-reads
annotation_end-returns-in-Some-clause-reads t c = parentheses_read (IsInner c.args.depth) c.args.tokens.now c.in-Some.inside.now _ c.any_list.result c.in-Some.ensures.reads c.any_list.ensures.reads

pub inner-returns-then-depth-eq0-clause-reads : goal.inner-returns-then-depth-eq0-clause-reads
inner-returns-then-depth-eq0-clause-reads t c = inner_zero c.args.depth c.args.tokens.now c.if-depth-eq0.true

pub inner-returns-in_default-clause-reads : goal.inner-returns-in_default-clause-reads
inner-returns-in_default-clause-reads t c = inner_none c.args.depth (c.args.depth - 1) c.args.tokens.now (omega (arith, c.if-depth-eq0.false)) c.in_default.ensures.cases

pub inner-returns-clause-reads : goal.inner-returns-clause-reads
inner-returns-clause-reads t c = inner_reads c.args.depth (c.args.depth - 1) c.args.tokens.now c.in-Some.rest.now c.in-Some.first.now c.inner_after.result (omega (arith, c.if-depth-eq0.false)) c.in-Some.ensures.cases.0 c.inner_after.ensures.reads

pub inner_after-returns-in-Name-clause-reads : goal.inner_after-returns-in-Name-clause-reads
inner_after-returns-in-Name-clause-reads t c = subst (λ k. Skips (InnerAfter (IsInner c.args.depth) k) c.args.tokens.now c.annotation_end.result) (sym c.in-Name.is) c.annotation_end.ensures.reads

pub inner_after-returns-in-Whole-clause-reads : goal.inner_after-returns-in-Whole-clause-reads
inner_after-returns-in-Whole-clause-reads t c = subst (λ k. Skips (InnerAfter (IsInner c.args.depth) k) c.args.tokens.now c.range_end.result) (sym c.in-Whole.is) c.range_end.ensures.reads

pub inner_after-returns-in-Float-clause-reads : goal.inner_after-returns-in-Float-clause-reads
inner_after-returns-in-Float-clause-reads t c = subst (λ k. Skips (InnerAfter (IsInner c.args.depth) k) c.args.tokens.now c.float_range_end.result) (sym c.in-Float.is) c.float_range_end.ensures.reads

pub inner_after-returns-in-OpenBrace-clause-reads : goal.inner_after-returns-in-OpenBrace-clause-reads
inner_after-returns-in-OpenBrace-clause-reads t c = subst (λ k. Skips (InnerAfter (IsInner c.args.depth) k) c.args.tokens.now c.any_list.result) (sym (c.in-Mark.is ∙ ap kind.Mark c.in-OpenBrace.is)) c.any_list.ensures.reads

pub inner_after-returns-in-OpenBracket-clause-reads : goal.inner_after-returns-in-OpenBracket-clause-reads
inner_after-returns-in-OpenBracket-clause-reads t c = subst (λ k. Skips (InnerAfter (IsInner c.args.depth) k) c.args.tokens.now c.any_list-in-OpenBracket.result) (sym (c.in-Mark.is ∙ ap kind.Mark c.in-OpenBracket.is)) c.any_list-in-OpenBracket.ensures.reads

pub any_list-forms-preserved : goal.any_list-forms-preserved
any_list-forms-preserved t c =
    let inv = c.forms.invariant.1 in (
      omega (arith, c.forms.invariant.0, c.in-Some-form.ensures.shorter, c.in-Some-one_of.ensures.shorter),
      (inv.0 ++ tt ∷ [], list_comma (IsSkipped c.args.skipped) c.args.close c.requires.closes (skipped_unique c.args.skipped) c.args.tokens.now inv.0 c.forms.rest.now c.in-Some-form.after.now c.in-Some-one_of.next.now tt _ inv.1 c.in-Some-form.ensures.reads c.in-Some-one_of.ensures.reads),
    )

pub any_list-returns-in_default-form-clause-reads : goal.any_list-returns-in_default-form-clause-reads
any_list-returns-in_default-form-clause-reads t c = λ v end p.
    let inv = c.forms.invariant.1 in
    list_fails (IsSkipped c.args.skipped) c.args.close c.requires.closes (skipped_unique c.args.skipped) c.args.tokens.now c.in_default.ensures.reads
    (list_no_form (IsSkipped c.args.skipped) c.args.close c.requires.closes (skipped_unique c.args.skipped) c.args.tokens.now inv.0 c.forms.rest.now inv.1 c.in_default-form.ensures.reads)
    p.0 end p.1

pub any_list-returns-in_default-one_of-clause-reads : goal.any_list-returns-in_default-one_of-clause-reads
any_list-returns-in_default-one_of-clause-reads t c = λ v end p.
    let inv = c.forms.invariant.1 in
    list_fails (IsSkipped c.args.skipped) c.args.close c.requires.closes (skipped_unique c.args.skipped) c.args.tokens.now c.in_default.ensures.reads
    (list_no_mark (IsSkipped c.args.skipped) c.args.close c.requires.closes (skipped_unique c.args.skipped) c.args.tokens.now inv.0 c.forms.rest.now c.in-Some-form.after.now tt inv.1 c.in-Some-form.ensures.reads c.in-None.ensures.reads c.in_default-one_of.ensures.reads)
    p.0 end p.1

pub any_list-returns-in-None-clause-reads : goal.any_list-returns-in-None-clause-reads
any_list-returns-in-None-clause-reads t c =
    let inv = c.forms.invariant.1 in
    (inv.0 ++ tt ∷ [], inr (list_close (IsSkipped c.args.skipped) c.args.close c.requires.closes (skipped_unique c.args.skipped) c.args.tokens.now inv.0 c.forms.rest.now c.in-Some-form.after.now c.in-Some-one_of-2.end.now tt _ inv.1 c.in-Some-form.ensures.reads c.in-Some-one_of-2.ensures.reads))

pub form-returns-in-Inner-clause-reads : goal.form-returns-in-Inner-clause-reads
form-returns-in-Inner-clause-reads t c = subst (λ s. Skips (IsSkipped s) c.args.tokens.now c.inner.result) (sym c.in-Inner.is) c.inner.ensures.reads

pub form-returns-in-Number-clause-reads : goal.form-returns-in-Number-clause-reads
form-returns-in-Number-clause-reads t c = subst (λ s. Skips (IsSkipped s) c.args.tokens.now c.number.result) (sym c.in-Number.is) c.number.ensures.reads
