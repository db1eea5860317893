use Rattle.std.proofs.Common.{◌≡◌, ◌∙◌, ap, sym, subst, ℤ, List, arith, ◌<◌, length, SFits, w64, rules}
use Rattle.std.specs.Prelude.{pos}
use Rattle.std.proofs.lemmas.Int.{to_z-of_z}
use Rattle.dcsp_defs.specs.Csp.{domain, with_value}
use Rattle.dcsp_rule.specs.Problems.{csp_of, AreInDomains}
use Rattle.dcsp_problem.proofs.RisingNumbers.{In-get_or}
use Rattle.dcsp_row.specs.Rows.{own_at, is_ruled_out}
use Rattle.dcsp_row.proofs.Domains.{one_marked, get_or_found, own_in_domains}
use Rattle.dcsp_row.proofs.general.try_each.Goals as goal

pub violated_within-requires-clause-domains : goal.violated_within-requires-clause-domains
violated_within-requires-clause-domains g c =
    let p = csp_of c.args.problem.now in
    let values = domain p c.args.open_var.now.var in
    let known = g.L.Lookup.values c.args.open_var.now.lookup.now in
    let place = c.loop-place.place in
    let size = ap length c.domain-domain.ensures in
    let there : place < length values = omega (arith, size) in
    let fits : SFits w64 c.value-value.result = search rules in
    let value = sym (ap (λ (d : List ℤ). own_at d place) c.domain-domain.ensures) ∙ get_or_found c.domain-domain.result.now place c.value-value.result (pos 0) c.value-value.ensures in
    rw to_z-of_z (subst (λ v. AreInDomains p (with_value c.args.open_var.now.var v known)) value (own_in_domains p c.args.open_var.now.var (own_at values place) known (In-get_or values place (pos 0) there) c.requires.known))

pub loop-place-preserved : goal.loop-place-preserved
loop-place-preserved g c =
    let p = csp_of c.args.problem.now in
    let values = domain p c.args.open_var.now.var in
    let known = g.L.Lookup.values c.args.open_var.now.lookup.now in
    let place = c.loop-place.place in
    let tells = is_ruled_out c.args.problem.now c.args.rule c.args.open_var.now.var known in
    let size = ap length c.domain-domain.ensures in
    let there : place < length values = omega (arith, size) in
    let fits : SFits w64 c.value-value.result = search rules in
    let value = sym (ap (λ (d : List ℤ). own_at d place) c.domain-domain.ensures) ∙ get_or_found c.domain-domain.result.now place c.value-value.result (pos 0) c.value-value.ensures in
    let said = simp to_z-of_z at c.violated_within.ensures in
    one_marked tells values place c.loop-place.row c.put.new.self c.violated_within.result c.loop-place.invariant there c.put.ensures (subst (λ v. c.violated_within.result ≡ tells v) (sym value) said)
