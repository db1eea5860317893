use Rattle.std.proofs.Common.{refl}
use Rattle.std.proofs.lemmas.Result.{err_from_is_err_and}
use Rattle.fzn_item.specs.declared.item.Item.TheVariants as item
use Rattle.fzn_item.specs.declared.single.Stop.TheVariants as stop
use Rattle.fzn_item.specs.Items.{IsConstraint}
use Rattle.fzn_item.specs.Lent.{IsThatConstraint}
use Rattle.fzn_item.proofs.ExprLaws.{expr_unique}
use Rattle.fzn_item.proofs.ItemLaws.{arguments_refused, annotations_refused, no_semicolon}
use Rattle.fzn_item.proofs.LentLaws.{refused_as}
use Rattle.fzn_item.proofs.lent.lent_constraint.Goals as goal

pub skip_list-requires-clause-unique : goal.skip_list-requires-clause-unique
skip_list-requires-clause-unique c = expr_unique

pub returns-in_default-skip_list-clause-reads : goal.returns-in_default-skip_list-clause-reads
returns-in_default-skip_list-clause-reads c = arguments_refused c.args.text.now c.args.first c.args.tokens.now c.in-Some.rest.now c.in-Some-one_of.inside.now c.in-Some.name _ c.in-Some.ensures.reads c.in-Some-one_of.ensures.reads stop.Unread c.in_default-skip_list.ensures.counts

pub returns-in_err-rest-clause-reads : goal.returns-in_err-rest-clause-reads
returns-in_err-rest-clause-reads c =
    let p = err_from_is_err_and c.from_residual.result c.from_residual.ensures.1 in
    let list = c.in-Some-skip_list.ensures.counts in
    rw (p.1, p.2) (refused_as IsThatConstraint (IsConstraint c.args.text.now c.args.first) c.args.tokens.now _ (annotations_refused c.args.text.now c.args.first c.args.tokens.now c.in-Some.rest.now c.in-Some-one_of.inside.now c.in-Some.name _ c.in-Some.ensures.reads c.in-Some-one_of.ensures.reads list.0 c.in-Some-skip_list.rest.now list.1 _ c.in_err-rest.ensures.reads))

pub returns-in_default-one_of-2-clause-reads : goal.returns-in_default-one_of-2-clause-reads
returns-in_default-one_of-2-clause-reads c =
    let list = c.in-Some-skip_list.ensures.counts in
    no_semicolon c.args.text.now c.args.first c.args.tokens.now c.in-Some.rest.now c.in-Some-one_of.inside.now c.in-Some.name _ c.in-Some.ensures.reads c.in-Some-one_of.ensures.reads list.0 c.in-Some-skip_list.rest.now list.1 _ c.in_ok-rest.rest.now c.in_ok-rest.ensures.reads c.in_default-one_of-2.ensures.reads

pub returns-clause-reads : goal.returns-clause-reads
returns-clause-reads c =
    let list = c.in-Some-skip_list.ensures.counts in (
      item.Constraint c.args.first.from c.in-Some.name.from c.in-Some.name.to list.0,
      (_, _, c.in-Some.ensures.reads, (_, _, c.in-Some-one_of.ensures.reads, (_, _, list.1, (_, _, c.in_ok-rest.ensures.reads, (_, _, c.in-Some-one_of-2.ensures.reads, (refl, refl)))))),
      (list.0, record { rest = c.in-Some-skip_list.rest.now; read = list.1; count = list.2 }, refl),
    )
