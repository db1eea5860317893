use Rattle.std.proofs.Common.{◌≡◌, ◌<◌, ◌∙◌, ap, sym, subst, length, cond, arith, rules, w64, SFits, to_z, of_z, Some, ℤ}
use Rattle.std.specs.Prelude.{pos}
use Rattle.std.proofs.lemmas.Int.{to_z-of_z}
use Rattle.dcsp_defs.specs.declared.nogood.Pair.{Pair}
use Rattle.dcsp_defs.specs.Words.{In, update}
use Rattle.dcsp_defs.specs.Csp.{domain}
use Rattle.dcsp_rule.specs.Problems.{Contents, csp_of, AreInDomains}
use Rattle.dcsp_problem.proofs.RisingNumbers.{In-get_or}
use Rattle.abt_defs.specs.Agents.{Stamped, View, values_in}
use Rattle.abt_parts.specs.Views.{view_of}
use Rattle.abt_reason.specs.Kept.{own_at}
use Rattle.abt_reason.proofs.Standing.{stood_before_learning, learnt_in_domains}
use Rattle.agent_trials.proofs.reasons.learn.Goals as goal

pub returns-then-not-hear-clause-domains : goal.returns-then-not-hear-clause-domains
returns-then-not-hear-clause-domains g c =
    let old = view_of c.args.view.now in
    let s : Stamped = record { value = to_z w64 (of_z w64 c.own_pair-told.result.value); stamp = c.args.stamp } in
    let same : view_of c.hear.new.view ≡ old = c.hear.ensures.view ∙ ap (λ b. cond b (update old c.args.var (Some s)) old) c.if-not-hear.true in
    subst (λ (view : View). AreInDomains (csp_of c.args.problem.now) (values_in view)) (sym same) c.requires.domains

pub returns-clause-domains : goal.returns-clause-domains
returns-clause-domains g c =
    let p = c.args.problem.now in
    let old = view_of c.args.view.now in
    let values = domain (csp_of p) c.args.var in
    let told = c.own_pair-told.result.value in
    let s : Stamped = record { value = to_z w64 (of_z w64 told); stamp = c.args.stamp } in
    let learnt : view_of c.hear.new.view ≡ update old c.args.var (Some s) = c.hear.ensures.view ∙ ap (λ b. cond b (update old c.args.var (Some s)) old) c.if-not-hear.false in
    let fits_in : SFits w64 told = search rules in
    let whole : to_z w64 (of_z w64 told) ≡ told = simp to_z-of_z in
    let within : c.args.place < length values = omega (arith, ap length c.domain-domain.ensures) in
    let is : to_z w64 (of_z w64 told) ≡ own_at values c.args.place = whole ∙ ap (λ (x : Pair). x.value) c.own_pair-told.ensures ∙ ap (λ d. own_at d c.args.place) c.domain-domain.ensures in
    learnt_in_domains (csp_of p) c.args.var s old (view_of c.hear.new.view) (subst (λ (v : ℤ). In v values) (sym is) (In-get_or values c.args.place (pos 0) within)) c.requires.domains learnt

pub after_view-requires-clause-domains : goal.after_view-requires-clause-domains
after_view-requires-clause-domains g c =
    let p = c.args.problem.now in
    let old = view_of c.args.view.now in
    let values = domain (csp_of p) c.args.var in
    let told = c.own_pair-told.result.value in
    let s : Stamped = record { value = to_z w64 (of_z w64 told); stamp = c.args.stamp } in
    let learnt : view_of c.hear.new.view ≡ update old c.args.var (Some s) = c.hear.ensures.view ∙ ap (λ b. cond b (update old c.args.var (Some s)) old) c.if-not-hear.false in
    let fits_in : SFits w64 told = search rules in
    let whole : to_z w64 (of_z w64 told) ≡ told = simp to_z-of_z in
    let within : c.args.place < length values = omega (arith, ap length c.domain-domain.ensures) in
    let is : to_z w64 (of_z w64 told) ≡ own_at values c.args.place = whole ∙ ap (λ (x : Pair). x.value) c.own_pair-told.ensures ∙ ap (λ d. own_at d c.args.place) c.domain-domain.ensures in
    subst (λ (q : Contents). AreInDomains (csp_of q) (values_in (view_of c.hear.new.view))) (sym c.requires.same)
    (learnt_in_domains (csp_of p) c.args.var s old (view_of c.hear.new.view) (subst (λ (v : ℤ). In v values) (sym is) (In-get_or values c.args.place (pos 0) within)) c.requires.domains learnt)

pub after_view-requires-clause-stood : goal.after_view-requires-clause-stood
after_view-requires-clause-stood g c =
    let old = view_of c.args.view.now in
    let s : Stamped = record { value = to_z w64 (of_z w64 c.own_pair-told.result.value); stamp = c.args.stamp } in
    let learnt : view_of c.hear.new.view ≡ update old c.args.var (Some s) = c.hear.ensures.view ∙ ap (λ b. cond b (update old c.args.var (Some s)) old) c.if-not-hear.false in
    stood_before_learning c.args.reasons.now c.args.var s old (view_of c.hear.new.view) c.args.store.now c.forget.new.self c.requires.stands learnt c.forget.ensures.items
