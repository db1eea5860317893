use Rattle.std.proofs.Common.{rules}
use Rattle.std.proofs.lemmas.Result.{err_from_is_err_and}
use Rattle.fzn_item.proofs.LentLaws.{constraint_refused_as}
use Rattle.fzn_item.proofs.lent.lent_item.Goals as goal

pub returns-in_err-constraint-clause-reads : goal.returns-in_err-constraint-clause-reads
returns-in_err-constraint-clause-reads c =
    let p = err_from_is_err_and c.from_residual.result c.from_residual.ensures.1 in
    rw (p.1, p.2) (constraint_refused_as c.args.text.now c.args.first.kind c.args.first c.args.tokens.now _ (search rules) c.in_err-constraint.ensures.reads)
