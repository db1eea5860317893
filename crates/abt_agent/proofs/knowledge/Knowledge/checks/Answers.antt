use Rattle.std.proofs.Common.{◌≡◌, ◌∙◌, ◌++◌, ◌∷◌, ℤ, Option, Some, true, false, not, filter, is_some, slice_get, option_to_list, ap, sym, subst, refl, rules, w64, SFits}
use Rattle.std.specs.Prelude.{pos}
use Rattle.std.specs.Ordering.{int_eq}
use Rattle.std.proofs.lemmas.Int.{to_z-of_z}
use Rattle.std.proofs.lemmas.Bool.Decides.{Decides-int_eq}
use Rattle.std.proofs.lemmas.Option.{get_or_from_slice_get}
use Rattle.dcsp_domain.specs.Sets.{has}
use Rattle.dcsp_defs.specs.Words.{is_value}
use Rattle.dcsp_defs.specs.Csp.{domain}
use Rattle.dcsp_rule.specs.Problems.{csp_of}
use Rattle.abt_defs.specs.Agents.{values_in}
use Rattle.abt_defs.specs.Checks.{checks_of_values}
use Rattle.abt_defs.specs.Reasons.{ruled_out}
use Rattle.abt_parts.specs.Views.{view_of}
use Rattle.abt_parts.specs.Stores.{records_of}
use Rattle.abt_reason.specs.Causes.{value_at}
use Rattle.abt_agent.specs.Causes.{cause_for}
use Rattle.abt_parts.specs.Checked.{as_checks, sum_of}
use Rattle.abt_agent.specs.Examined.{checks_but}
use Rattle.abt_agent.proofs.Causes.{flip, ruled_is}
use Rattle.abt_parts.proofs.Members.{list_any-In}
use Rattle.abt_agent.proofs.Examining.{same_checks, checks_at, free_value, ruled_value, get-inside, with_ok}
use Rattle.abt_agent.proofs.knowledge.Knowledge.checks.Goals as goal

pub returns-in_default-place_of : goal.returns-in_default-place_of
returns-in_default-place_of c =
    let p = c.args.self.now.problem.now in
    let v = c.in-Some.value in
    let fits : SFits w64 v = search rules in
    let values = domain (csp_of p) c.args.self.now.me in
    let there : has values v ≡ true = list_any-In (int_eq v) v values (c.requires.own v c.in-Some.is) ((Decides-int_eq v v).1 refl) in
    let absent = subst (λ (z : ℤ). false ≡ has c.domain.result.now z) (to_z-of_z w64 v fits) c.in_default-place_of.ensures.has in
    let clash : false ≡ true = absent ∙ ap (λ d. has d v) c.domain.ensures ∙ there in
    cc

pub value_checks-first-requires-clause-place : goal.value_checks-first-requires-clause-place
value_checks-first-requires-clause-place c =
    let place = c.in-Some-place_of.place in
    get-inside (domain (csp_of c.args.self.now.problem.now) c.args.self.now.me) place _ (ap (λ d. slice_get d place) (sym c.domain.ensures) ∙ c.in-Some-place_of.ensures.found)

pub is_free_at-requires-clause-place : goal.is_free_at-requires-clause-place
is_free_at-requires-clause-place c =
    let place = c.in-Some-place_of.place in
    get-inside (domain (csp_of c.args.self.now.problem.now) c.args.self.now.me) place _ (ap (λ d. slice_get d place) (sym c.domain.ensures) ∙ c.in-Some-place_of.ensures.found)

pub returns-then-is_free_at : goal.returns-then-is_free_at
returns-then-is_free_at c =
    let p = c.args.self.now.problem.now in
    let me = c.args.self.now.me in
    let values = domain (csp_of p) me in
    let known = values_in (view_of c.args.self.now.view) in
    let recorded = records_of c.args.self.now.store in
    let v = c.in-Some.value in
    let fits : SFits w64 v = search rules in
    let place = c.in-Some-place_of.place in
    let found = subst (λ (z : ℤ). slice_get c.domain.result.now place ≡ Some z) (to_z-of_z w64 v fits) c.in-Some-place_of.ensures.found in
    let same : value_at p me place ≡ v = get_or_from_slice_get values place v (pos 0) (ap (λ d. slice_get d place) (sym c.domain.ensures) ∙ found) in
    let w = value_at p me place in
    let free : ruled_out (csp_of p) me known recorded w ≡ false = ruled_is p me known c.args.self.now.store w ∙ flip true (is_some (cause_for p me known c.args.self.now.store w)) c.if-is_free_at.ensures in
    let one : as_checks c.value_checks-first.result ≡ checks_at p me known recorded w = same_checks _ _ c.value_checks-first.ensures.constraints c.value_checks-first.ensures.nogoods in
    one ∙ sym (free_value p me known recorded w (filter (λ u. not (is_value c.args.own u)) values) free)
    ∙ ap (λ (z : ℤ). checks_of_values (csp_of p) me known recorded (z ∷ filter (λ u. not (is_value c.args.own u)) values)) same
    ∙ ap (λ (o : Option ℤ). checks_of_values (csp_of p) me known recorded (option_to_list o ++ filter (λ u. not (is_value c.args.own u)) values)) (sym c.in-Some.is)

pub returns : goal.returns
returns c =
    let p = c.args.self.now.problem.now in
    let me = c.args.self.now.me in
    let values = domain (csp_of p) me in
    let known = values_in (view_of c.args.self.now.view) in
    let recorded = records_of c.args.self.now.store in
    let v = c.in-Some.value in
    let fits : SFits w64 v = search rules in
    let place = c.in-Some-place_of.place in
    let found = subst (λ (z : ℤ). slice_get c.domain.result.now place ≡ Some z) (to_z-of_z w64 v fits) c.in-Some-place_of.ensures.found in
    let same : value_at p me place ≡ v = get_or_from_slice_get values place v (pos 0) (ap (λ d. slice_get d place) (sym c.domain.ensures) ∙ found) in
    let w = value_at p me place in
    let out : ruled_out (csp_of p) me known recorded w ≡ true = ruled_is p me known c.args.self.now.store w ∙ flip false (is_some (cause_for p me known c.args.self.now.store w)) c.if-is_free_at.ensures in
    let one : as_checks c.value_checks-first.result ≡ checks_at p me known recorded w = same_checks _ _ c.value_checks-first.ensures.constraints c.value_checks-first.ensures.nogoods in
    with_ok c.other_checks-2.result as_checks _ _ c.other_checks-2.ensures
    (ap (λ s. sum_of s (checks_but p me known recorded (Some v) values)) one
    ∙ sym (ruled_value p me known recorded w (filter (λ u. not (is_value (Some v) u)) values) out)
    ∙ ap (λ (z : ℤ). checks_of_values (csp_of p) me known recorded (z ∷ filter (λ u. not (is_value (Some v) u)) values)) same
    ∙ ap (λ (o : Option ℤ). checks_of_values (csp_of p) me known recorded (option_to_list o ++ filter (λ u. not (is_value o u)) values)) (sym c.in-Some.is))
