use Rattle.std.proofs.Common.{pos, ◌≡◌, ap, sym, subst, ◌∙◌, ℤ, Some, true, false, slice_get, refl, rules, w64, SFits}
use Rattle.std.proofs.lemmas.Int.{to_z-of_z}
use Rattle.std.proofs.lemmas.Bool.Decides.{Decides-int_eq}
use Rattle.std.proofs.lemmas.Option.{get_or_from_slice_get}
use Rattle.std.specs.Ordering.{int_eq}
use Rattle.dcsp_domain.specs.Sets.{has}
use Rattle.dcsp_defs.specs.Csp.{domain}
use Rattle.dcsp_rule.specs.Problems.{csp_of}
use Rattle.abt_reason.specs.Causes.{value_at}
use Rattle.abt_agent.proofs.Causes.{own_is}
use Rattle.abt_parts.proofs.Members.{list_any-In}
use Rattle.abt_agent.proofs.body.AgentBody.is_own_free.Goals as goal

pub returns-in-Some-place_of : goal.returns-in-Some-place_of
returns-in-Some-place_of c =
    let p = c.args.self.now.known.problem.now in
    let v = c.in-Some.value in
    let fits : SFits w64 v = search rules in
    let values = domain (csp_of p) c.args.self.now.known.me in
    let place = c.in-Some-place_of.place in
    let found = subst (λ (z : ℤ). slice_get c.domain.result.now place ≡ Some z) (to_z-of_z w64 v fits) c.in-Some-place_of.ensures.found in
    let same : value_at p c.args.self.now.known.me place ≡ v = get_or_from_slice_get values place v (pos 0) (ap (λ d. slice_get d place) (sym c.domain.ensures) ∙ found) in
    own_is p c.args.self.now.known.me c.args.self.now v (value_at p c.args.self.now.known.me place) c.is_free_at.result c.is_free_at.ensures same c.in-Some.is

pub returns-in-None-place_of : goal.returns-in-None-place_of
returns-in-None-place_of c =
    let p = c.args.self.now.known.problem.now in
    let v = c.in-Some.value in
    let fits : SFits w64 v = search rules in
    let values = domain (csp_of p) c.args.self.now.known.me in
    let there : has values v ≡ true = list_any-In (int_eq v) v values (c.requires.sound.in_domain v c.in-Some.is) ((Decides-int_eq v v).1 refl) in
    let absent = subst (λ (z : ℤ). false ≡ has c.domain.result.now z) (to_z-of_z w64 v fits) c.in-None-place_of.ensures.has in
    let clash : false ≡ true = absent ∙ ap (λ d. has d v) c.domain.ensures ∙ there in
    cc
