use Rattle.std.proofs.Common.{◌≡◌, arith, rules, w64, SFits}
use Rattle.std.proofs.lemmas.Int.{to_z-of_z}
use Rattle.dcsp_rule.proofs.PartLaws.{part_more}
use Rattle.dcsp_rule.proofs.parts.with_part.Goals as goal

pub returns-in_ok-coef-in-Some-clause-adds : goal.returns-in_ok-coef-in-Some-clause-adds
returns-in_ok-coef-in-Some-clause-adds c =
    let coef = c.in_ok-coef-in-Some.coef in
    let fits : SFits w64 coef = search rules in
    let coef_fits : SFits w64 c.args.coef = c.ranges.coef in
    let part_fits : SFits w64 c.in-Some.part.coef = search rules in
    let same : c.in-Some.part.var ≡ c.args.var = omega (arith, c.if-part-var.false) in
    let said = simp to_z-of_z at c.in_ok-coef-in-Some.ensures in
    rw (c.in-Some.is, to_z-of_z w64 coef fits) (part_more c.in-Some.part c.args.coef c.args.var coef same said.1)
