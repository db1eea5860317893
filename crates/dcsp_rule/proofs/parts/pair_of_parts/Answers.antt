use Rattle.std.proofs.Common.{◌≡◌, rules, w64, Some, SFits}
use Rattle.std.specs.Int.{w128}
use Rattle.std.proofs.lemmas.Int.{to_z-of_z}
use Rattle.dcsp_rule.proofs.PartLaws.{parts_pair}
use Rattle.dcsp_rule.proofs.parts.pair_of_parts.Goals as goal

pub returns-then-is_small-clause-pair : goal.returns-then-is_small-clause-pair
returns-then-is_small-clause-pair c =
    let first = c.in_ok-first.first in
    let other = c.unwrap_or-second.result in
    let first_fits : SFits w64 first.coef = search rules in
    let other_fits : SFits w64 other.coef = search rules in
    let total_fits : SFits w128 c.args.parts.total = search rules in
    let was : c.args.parts.first ≡ Some first = search rules in
    let small = simp to_z-of_z at c.is_small.ensures.small in
    simp to_z-of_z
    (parts_pair c.args.rel c.args.parts first other was c.unwrap_or-second.ensures (small c.if-is_small.true))
