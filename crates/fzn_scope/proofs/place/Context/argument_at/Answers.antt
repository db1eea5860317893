use Rattle.std.proofs.lemmas.Result.{err_from_is_err_and}
use Rattle.fzn_scope.proofs.LentSteps.{one_is}
use Rattle.fzn_scope.proofs.place.Context.argument_at.Goals as goal

pub returns-in_err-add_atom-in-One : goal.returns-in_err-add_atom-in-One
returns-in_err-add_atom-in-One c = λ argument rest read.
    let p = err_from_is_err_and c.from_residual-in_err-add_atom-in-One.result c.from_residual-in_err-add_atom-in-One.ensures.1 in
    let same = one_is c.args.tokens.now c.in_ok-argument.argument c.in-One.atom c.in-One.behind argument rest c.in_ok-argument.ensures c.in-One.is read in
    rw (p.1, p.2, same.0) c.in_err-add_atom-in-One.ensures

pub returns-in_ok-add_atom-in-One : goal.returns-in_ok-add_atom-in-One
returns-in_ok-add_atom-in-One c = λ argument rest read.
    let same = one_is c.args.tokens.now c.in_ok-argument.argument c.in-One.atom c.in-One.behind argument rest c.in_ok-argument.ensures c.in-One.is read in
    (rw same.0 c.in_ok-add_atom-in-One.ensures, same.1)
