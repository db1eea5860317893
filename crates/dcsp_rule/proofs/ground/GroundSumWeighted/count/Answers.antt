use Rattle.std.proofs.Common.{map, arith}
use Rattle.std.proofs.lemmas.List.{length-map}
use Rattle.std.proofs.lemmas.Slice.Zip.{length-zip}
use Rattle.dcsp_defs.specs.Csp.{filled}
use Rattle.dcsp_rule.specs.Rules.{value_under}
use Rattle.dcsp_rule.proofs.ground.GroundSumWeighted.count.Goals as goal

pub returns : goal.returns
returns g c =
    let value = value_under (filled (g.L.Lookup.values c.args.self.now.lookup.now)) in
    omega (arith, length-zip c.args.self.now.coefs.now (map value c.args.self.now.terms.now), length-map c.args.self.now.terms.now value)
