use Rattle.std.proofs.Common.{rules, ◌≡◌, ◌∙◌, ap, subst, arith, List, w64, SFits, slice_get, Some, refl, is_some}
use Rattle.std.specs.Prelude.{ℤ}
use Rattle.std.proofs.lemmas.Int.{to_z-of_z}
use Rattle.dcsp_domain.specs.Sets.{has}
use Rattle.dcsp_rule.specs.Problems.{csp_of}
use Rattle.ngd_check.proofs.Parts.{In-has, within}
use Rattle.ngd_check.proofs.Placing.{found_place}
use Rattle.ngd_check.proofs.places.place_of.Goals as goal

pub returns-in-None-clause-none : goal.returns-in-None-clause-none
returns-in-None-clause-none c t h =
    let fits : SFits w64 c.args.pair.value = search rules in
    let placed = simp to_z-of_z at c.place_of.ensures.has in
    let said : is_some c.place_of.result ≡ has _ c.args.pair.value = placed ∙ ap (λ (d : List ℤ). has d c.args.pair.value) c.domain-domain.ensures in
    let there = said ∙ In-has _ _ h.value in
    let gone = ap is_some c.in-None.is in
    absurd cc

pub overflow_cast-result-in-Some : goal.overflow_cast-result-in-Some
overflow_cast-result-in-Some c =
    let fits : SFits w64 c.args.pair.value = search rules in
    let found = simp to_z-of_z at c.in-Some.ensures.found in
    let l = within c.domain-domain.result.now c.in-Some.place c.args.pair.value found in
    omega (arith, l, c.len-values.ensures.small)

pub returns-in-Some-clause-found : goal.returns-in-Some-clause-found
returns-in-Some-clause-found c =
    let fits : SFits w64 c.args.pair.value = search rules in
    let found = simp to_z-of_z at c.in-Some.ensures.found in
    let few = c.vars.ensures.problem.few_variables in
    found_place (csp_of c.args.problem.now) c.args.pair _ refl (omega arith) (omega (arith, few)) (subst (λ (d : List ℤ). slice_get d c.in-Some.place ≡ Some c.args.pair.value) c.domain-domain.ensures found)
