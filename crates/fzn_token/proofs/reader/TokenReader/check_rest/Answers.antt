use Rattle.std.proofs.Common.{◌++◌, ◌∷◌, [], subst, Ok}
use Rattle.std.proofs.lemmas.Result.{err_from_is_err_and}
use Rattle.fzn_token.specs.declared.refusal.ModelError.TheVariants as errors
use Rattle.fzn_token.specs.Reading.{refusal_of, TakesOne}
use Rattle.fzn_token.proofs.Joining.{reads_join, refuses_join, reads_last}
use Rattle.fzn_token.proofs.reader.TokenReader.check_rest.Goals as goal

pub returns-in_err-_token : goal.returns-in_err-_token
returns-in_err-_token c =
    let inv = c.loop-token.invariant in
    let p = err_from_is_err_and c.from_residual.result c.from_residual.ensures.1 in
    rw (p.1, p.2) (refuses_join c.args.self.now inv.0 c.loop-token.self (errors.Refused (refusal_of c.in_err-_token.field-0.0)) inv.1 c.in_err-_token.ensures)

pub loop-token-preserved : goal.loop-token-preserved
loop-token-preserved c =
    let inv = c.loop-token.invariant in
    let one = subst (λ r. TakesOne c.loop-token.self c.next_token.new.self (Ok r)) c.in-Some.is c.in_ok-_token.ensures in
    (inv.0 ++ c.in-Some._token ∷ [], reads_join c.args.self.now inv.0 c.loop-token.self (c.in-Some._token ∷ []) c.next_token.new.self inv.1 one.0)

pub returns : goal.returns
returns c =
    let inv = c.loop-token.invariant in
    (inv.0, reads_last c.args.self.now inv.0 c.loop-token.self c.next_token.new.self _ inv.1 c.in_ok-_token.ensures c.in_default.not-Some)
