use Rattle.std.proofs.Common.{◌≡◌, ◌<◌, ◌∙◌, ap, sym, subst, length, arith}
use Rattle.std.specs.Prelude.{pos}
use Rattle.dcsp_defs.specs.declared.nogood.Pair.{Pair}
use Rattle.dcsp_defs.specs.Pairs.{pair_of}
use Rattle.dcsp_defs.specs.Words.{In}
use Rattle.dcsp_defs.specs.Csp.{domain}
use Rattle.dcsp_rule.specs.Problems.{csp_of}
use Rattle.dcsp_problem.proofs.RisingNumbers.{In-get_or}
use Rattle.abt_reason.specs.Kept.{own_at}
use Rattle.agent_trials.proofs.reasons.compare.Goals as goal

pub first_violated-found-requires-clause-value : goal.first_violated-found-requires-clause-value
first_violated-found-requires-clause-value g c =
    let values = domain (csp_of c.args.problem.now) c.args.agent in
    let k = c.loop-place.place in
    let within : k < length values = omega (arith, ap length c.domain-domain.ensures) in
    let own : c.own_pair-own.result ≡ pair_of c.args.agent (own_at values k) = c.own_pair-own.ensures ∙ ap (λ d. pair_of c.args.agent (own_at d k)) c.domain-domain.ensures in
    subst (λ (x : Pair). In x.value (domain (csp_of c.args.problem.now) x.var)) (sym own) (In-get_or values k (pos 0) within)
