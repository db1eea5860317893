use Rattle.std.proofs.Common.{◌∙◌, sym, rules, w64, SFits}
use Rattle.std.specs.Int.{w128}
use Rattle.std.proofs.lemmas.Int.{to_z-of_z}
use Rattle.dcsp_row.specs.Rows.{own_at}
use Rattle.dcsp_row.proofs.LineLaws.{missed_second}
use Rattle.dcsp_row.proofs.fill.span_of_second.Goals as goal

pub returns : goal.returns
returns g c = λ k l.
    let first_fits : SFits w64 c.args.pair.first_coef = search rules in
    let second_fits : SFits w64 c.args.pair.second_coef = search rules in
    let value_fits : SFits w64 c.in-Some.value = search rules in
    let base_fits : SFits w128 c.product.result = search rules in
    let total_fits : SFits w128 c.args.pair.total = search rules in
    (simp to_z-of_z at c.missed_line.ensures) k l
    ∙ missed_second c.args.pair (g.L.Lookup.values c.args.open_var.now.lookup.now) c.args.open_var.now.var c.requires.first c.in-Some.value c.product.result c.requires.second
    (sym c.value_of.ensures ∙ c.in-Some.is) (simp to_z-of_z at c.product.ensures.product) (own_at c.args.domain.now k)
