use Rattle.std.proofs.lemmas.Result.{err_from_is_err_and}
use Rattle.fzn_item.specs.Items.{IsConstraint}
use Rattle.fzn_item.proofs.ExprLaws.{expr_unique}
use Rattle.fzn_item.proofs.LentLaws.{read_again, kept_constraint}
use Rattle.fzn_item.proofs.reading.constraint.Goals as goal

pub list_of-requires-clause-unique : goal.list_of-requires-clause-unique
list_of-requires-clause-unique c = expr_unique

pub returns-in_err-arguments-clause-reads : goal.returns-in_err-arguments-clause-reads
returns-in_err-arguments-clause-reads c =
    let p = err_from_is_err_and c.from_residual-in_err-arguments.result c.from_residual-in_err-arguments.ensures.1 in
    let lent = c.in_ok-lent.ensures.reads in
    rw (p.1, p.2) (read_again (IsConstraint c.args.text.now c.args.first) c.args.tokens.now c.in_ok-lent.lent lent.0 _ lent.2 c.in_err-arguments.ensures.reads)

pub returns-clause-reads : goal.returns-clause-reads
returns-clause-reads c = kept_constraint (IsConstraint c.args.text.now c.args.first) c.args.tokens.now c.in_ok-lent.rest.now c.in_ok-lent.lent c.in_ok-arguments.arguments _ c.in_ok-lent.ensures.reads c.in_ok-arguments.ensures.reads
