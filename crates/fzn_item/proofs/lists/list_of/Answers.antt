use Rattle.std.proofs.Common.{arith, sym, subst, inr}
use Rattle.std.proofs.lemmas.Result.{err_from_is_err_and}
use Rattle.fzn_item.specs.Productions.{IsListOf, IsSeparated}
use Rattle.fzn_item.proofs.ListsSoFar.{IsListSoFar, list_comma, list_close, list_no_form, list_no_mark, list_fails}
use Rattle.fzn_item.proofs.ExprLaws.{passes_on}
use Rattle.fzn_item.proofs.lists.list_of.Goals as goal

pub forms-preserved : goal.forms-preserved
forms-preserved g c =
    let R = g.F.Form.form in
    let pushed = c.in_ok-push.ensures.ok in
    let read = list_comma R c.args.close c.requires.closes c.requires.unique c.args.tokens.now c.forms.list c.forms.rest.now c.in_ok-value.after.now c.in-Some-one_of.next.now c.in_ok-value.value _ c.forms.invariant.0 c.in_ok-value.ensures.reads c.in-Some-one_of.ensures.reads in
    (subst (λ l. IsListSoFar R c.args.close c.args.tokens.now l c.in-Some-one_of.next.now) (sym pushed) read, omega (arith, c.forms.invariant.1, c.in_ok-value.ensures.shorter, c.in-Some-one_of.ensures.shorter))

pub returns-in_err-value-clause-reads : goal.returns-in_err-value-clause-reads
returns-in_err-value-clause-reads g c =
    let R = g.F.Form.form in
    let p = err_from_is_err_and c.from_residual.result c.from_residual.ensures.1 in
    rw (p.1, p.2) (passes_on R (IsListOf R c.args.close) c.forms.rest.now c.args.tokens.now _ (λ fails. list_fails R c.args.close c.requires.closes c.requires.unique c.args.tokens.now c.in_default.ensures.reads (list_no_form R c.args.close c.requires.closes c.requires.unique c.args.tokens.now c.forms.list c.forms.rest.now c.forms.invariant.0 fails)) c.in_err-value.ensures.reads)

pub returns-in_default-one_of-clause-reads : goal.returns-in_default-one_of-clause-reads
returns-in_default-one_of-clause-reads g c = list_fails g.F.Form.form c.args.close c.requires.closes c.requires.unique c.args.tokens.now c.in_default.ensures.reads (list_no_mark g.F.Form.form c.args.close c.requires.closes c.requires.unique c.args.tokens.now c.forms.list c.forms.rest.now c.in_ok-value.after.now c.in_ok-value.value c.forms.invariant.0 c.in_ok-value.ensures.reads c.in-None.ensures.reads c.in_default-one_of.ensures.reads)

pub returns-in-None-clause-reads : goal.returns-in-None-clause-reads
returns-in-None-clause-reads g c =
    let R = g.F.Form.form in
    let pushed = c.in_ok-push.ensures.ok in
    inr (subst (λ l. IsSeparated R c.args.close c.args.tokens.now l c.in-Some-one_of-2.end.now) (sym pushed) (list_close R c.args.close c.requires.closes c.requires.unique c.args.tokens.now c.forms.list c.forms.rest.now c.in_ok-value.after.now c.in-Some-one_of-2.end.now c.in_ok-value.value _ c.forms.invariant.0 c.in_ok-value.ensures.reads c.in-Some-one_of-2.ensures.reads))
