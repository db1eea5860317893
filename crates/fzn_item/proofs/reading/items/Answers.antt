use Rattle.std.proofs.Common.{sym, subst, Ok}
use Rattle.std.proofs.lemmas.Result.{err_from_is_err_and}
use Rattle.fzn_item.specs.Items.{AreItemsTo, GivesNext}
use Rattle.fzn_item.proofs.ItemLaws.{items_push, next_refused}
use Rattle.fzn_item.proofs.reading.items.Goals as goal

pub returns-in_err-item : goal.returns-in_err-item
returns-in_err-item c =
    let p = err_from_is_err_and c.from_residual.result c.from_residual.ensures.1 in
    rw (p.1, p.2) (next_refused c.args.text.now c.args.tokens.now c.items.list c.items.rest.now _ c.items.invariant c.in_err-item.ensures.gives)

pub items-preserved : goal.items-preserved
items-preserved c =
    let pushed = c.in_ok-push.ensures.ok in
    subst (λ l. AreItemsTo c.args.text.now c.args.tokens.now l c.in-Some.after.now) (sym pushed) (items_push c.args.text.now c.args.tokens.now c.items.list c.items.rest.now c.in-Some.item c.in-Some.after.now c.items.invariant (subst (λ n. GivesNext c.args.text.now c.items.rest.now (Ok n)) c.in-Some.is c.in_ok-item.ensures.gives))
