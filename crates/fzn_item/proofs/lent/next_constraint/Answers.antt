use Rattle.std.proofs.Common.{subst, Err}
use Rattle.fzn_item.specs.Items.{IsConstraint}
use Rattle.fzn_item.specs.Lent.{IsThatConstraint, ReadsAs}
use Rattle.fzn_item.proofs.LentLaws.{constraint_is_item, constraint_unread}
use Rattle.fzn_item.proofs.lent.next_constraint.Goals as goal

pub returns-in-Ok : goal.returns-in-Ok
returns-in-Ok c =
    let lent = c.in-Ok.ensures.reads in
    (lent.0, _, constraint_is_item c.args.text.now c.args.tokens.now c.in-Some.first c.in-Some.rest.now lent.0 _ c.in-Some.ensures.reads lent.1, lent.2)

pub returns-in-Err-Unread : goal.returns-in-Err-Unread
returns-in-Err-Unread c =
    let fails = subst (λ e. ReadsAs IsThatConstraint (IsConstraint c.args.text.now c.in-Some.first) c.in-Some.rest.now (Err e)) c.in-Err-Unread.field-0-is c.in-Err-Unread.ensures.reads in
    constraint_unread c.args.text.now c.args.tokens.now c.in-Some.first c.in-Some.rest.now c.in-Some.ensures.reads fails
