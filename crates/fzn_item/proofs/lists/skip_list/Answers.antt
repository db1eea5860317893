use Rattle.std.proofs.Common.{arith}
use Rattle.fzn_item.proofs.ListsSoFar.{count_start, count_comma, count_close, list_no_form, list_no_mark, list_fails}
use Rattle.fzn_item.proofs.lists.skip_list.Goals as goal

pub forms-init : goal.forms-init
forms-init g c = (count_start g.F.Form.form c.args.close c.args.tokens.now, omega arith)

pub forms-preserved : goal.forms-preserved
forms-preserved g c = (
  count_comma g.F.Form.form c.args.close c.requires.closes c.requires.unique c.args.tokens.now c.forms.count c.forms.rest.now c.in-Some-skip.after.now c.in-Some-one_of.next.now _ c.forms.invariant.0 c.in-Some-skip.ensures.passes c.in-Some-one_of.ensures.reads,
  omega (arith, c.forms.invariant.1, c.in-Some-skip.ensures.shorter, c.in-Some-one_of.ensures.shorter),
)

pub returns-in_default-skip-clause-counts : goal.returns-in_default-skip-clause-counts
returns-in_default-skip-clause-counts g c =
    let inv = c.forms.invariant.0 in
    list_fails g.F.Form.form c.args.close c.requires.closes c.requires.unique c.args.tokens.now c.in_default.ensures.reads (list_no_form g.F.Form.form c.args.close c.requires.closes c.requires.unique c.args.tokens.now inv.forms c.forms.rest.now inv.so_far c.in_default-skip.ensures.passes)

pub returns-in_default-one_of-clause-counts : goal.returns-in_default-one_of-clause-counts
returns-in_default-one_of-clause-counts g c =
    let inv = c.forms.invariant.0 in
    list_fails g.F.Form.form c.args.close c.requires.closes c.requires.unique c.args.tokens.now c.in_default.ensures.reads (list_no_mark g.F.Form.form c.args.close c.requires.closes c.requires.unique c.args.tokens.now inv.forms c.forms.rest.now c.in-Some-skip.after.now c.in-Some-skip.ensures.passes.0 inv.so_far c.in-Some-skip.ensures.passes.1 c.in-None.ensures.reads c.in_default-one_of.ensures.reads)

pub returns-in-None-clause-counts : goal.returns-in-None-clause-counts
returns-in-None-clause-counts g c = count_close g.F.Form.form c.args.close c.requires.closes c.requires.unique c.args.tokens.now c.forms.count c.forms.rest.now c.in-Some-skip.after.now c.in-Some-one_of-2.end.now _ c.forms.invariant.0 c.in-Some-skip.ensures.passes c.in-Some-one_of-2.ensures.reads
