use Rattle.std.proofs.Common.{sym, subst, Ok}
use Rattle.std.proofs.lemmas.Result.{err_from_is_err_and}
use Rattle.fzn_token.specs.Reading.{IsBehind, TakesOne}
use Rattle.fzn_token.proofs.lexer.tokens.Goals as goal

pub returns-in_err-token : goal.returns-in_err-token
returns-in_err-token c =
    let p = err_from_is_err_and c.from_residual.result c.from_residual.ensures.1 in
    rw (p.1, p.2) (c.in_err-token.ensures c.args.text.now c.loop-list.list c.loop-list.invariant)

pub loop-list-preserved : goal.loop-list-preserved
loop-list-preserved c =
    let one = subst (λ r. TakesOne c.loop-list.reader c.next_token.new.self (Ok r)) c.in-Some.is c.in_ok-token.ensures in
    subst (IsBehind c.args.text.now c.next_token.new.self) (sym c.in_ok-push.ensures.ok) (one.0 c.args.text.now c.loop-list.list c.loop-list.invariant)
