use Rattle.std.proofs.Common.{◌<◌, pos, map, length, get_or, arith, rules, SFits, w64, ap, ◌∙◌, sym}
use Rattle.std.proofs.lemmas.Int.{to_z-of_z}
use Rattle.std.proofs.lemmas.Slice.Zip.{length-zip, get_or-zip}
use Rattle.dcsp_defs.specs.Csp.{filled}
use Rattle.dcsp_rule.specs.Rules.{value_under}
use Rattle.dcsp_rule.proofs.ground.GroundSumWeighted.coef.Goals as goal

pub offset_bounds-self-place : goal.offset_bounds-self-place
offset_bounds-self-place g c =
    let value = value_under (filled (g.L.Lookup.values c.args.self.now.lookup.now)) in
    let within : c.args.place < length c.args.self.now.coefs.now =
    omega (arith, c.requires, length-zip c.args.self.now.coefs.now (map value c.args.self.now.terms.now)) in
    search rules

pub bounds-self-place : goal.bounds-self-place
bounds-self-place g c =
    let value = value_under (filled (g.L.Lookup.values c.args.self.now.lookup.now)) in
    omega (arith, c.requires, length-zip c.args.self.now.coefs.now (map value c.args.self.now.terms.now))

pub returns : goal.returns
returns g c =
    let value = value_under (filled (g.L.Lookup.values c.args.self.now.lookup.now)) in
    let coefs = c.args.self.now.coefs.now in
    let values = map value c.args.self.now.terms.now in
    let size = length-zip coefs values in
    let in_coefs : c.args.place < length coefs = omega (arith, c.requires) in
    let in_values : c.args.place < length values = omega (arith, c.requires) in
    let fits : SFits w64 (get_or coefs c.args.place (pos 0)) = search rules in
    let pair = get_or-zip coefs values c.args.place (pos 0, pos 0) in_coefs in_values in
    to_z-of_z w64 (get_or coefs c.args.place (pos 0)) fits ∙ ap (λ z. z.0) (sym pair)
