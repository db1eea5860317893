use Rattle.std.proofs.Common.{rules, w64, SFits}
use Rattle.std.specs.Int.{w128}
use Rattle.std.proofs.lemmas.Int.{to_z-of_z}
use Rattle.dcsp_rule.proofs.PartLaws.{first_added, second_added}
use Rattle.dcsp_rule.proofs.parts.with_var.Goals as goal

pub returns-in-Some-clause-adds : goal.returns-in-Some-clause-adds
returns-in-Some-clause-adds c =
    let coef_fits : SFits w64 c.args.coef = c.ranges.coef in
    let total_fits : SFits w128 c.args.parts.total = search rules in
    rw (to_z-of_z w128 c.args.parts.total total_fits) (first_added c.args.parts c.args.coef c.args.var c.in-Some.first (simp to_z-of_z at c.in-Some.ensures.adds))

pub returns-in_ok-second-in-None-clause-adds : goal.returns-in_ok-second-in-None-clause-adds
returns-in_ok-second-in-None-clause-adds c =
    let coef_fits : SFits w64 c.args.coef = c.ranges.coef in
    let total_fits : SFits w128 c.args.parts.total = search rules in
    rw (to_z-of_z w128 c.args.parts.total total_fits) (second_added c.args.parts c.args.coef c.args.var c.in_ok-second-in-None.second (simp to_z-of_z at c.in_ok-second-in-None.ensures.adds))
