use Rattle.std.proofs.Common.{refl, ◌-ℤ◌, arith, rules, w64, SFits}
use Rattle.std.specs.Int.{w128}
use Rattle.std.proofs.lemmas.Int.{to_z-of_z, fits_signed_from_abs}
use Rattle.dcsp_rule.proofs.PartLaws.{constant_added}
use Rattle.dcsp_rule.proofs.SmallLaws.{constant_size}
use Rattle.dcsp_rule.proofs.parts.with_term.Goals as goal

pub returns-in_ok-total-in-Const-clause-adds : goal.returns-in_ok-total-in-Const-clause-adds
returns-in_ok-total-in-Const-clause-adds c =
    let total = c.in_ok-total-in-Const.total in
    let coef_fits : SFits w64 c.args.coef = c.ranges.coef in
    let value_fits : SFits w64 c.in-Const.value = search rules in
    let total_fits : SFits w128 total = search rules in
    let before_fits : SFits w128 c.args.parts.total = search rules in
    let product_fits : SFits w128 c.product.result = search rules in
    let said = simp to_z-of_z at c.in_ok-total-in-Const.ensures in
    rw (c.in-Const.is, to_z-of_z w128 total total_fits) (constant_added c.args.parts c.args.coef c.in-Const.value c.product.result total (simp to_z-of_z at c.product.ensures.product) said.1)

pub returns-in_ok-total-in-Const-clause-small : goal.returns-in_ok-total-in-Const-clause-small
returns-in_ok-total-in-Const-clause-small c =
    let total = c.in_ok-total-in-Const.total in
    let coef_fits : SFits w64 c.args.coef = c.ranges.coef in
    let value_fits : SFits w64 c.in-Const.value = search rules in
    let total_fits : SFits w128 total = search rules in
    let before_fits : SFits w128 c.args.parts.total = search rules in
    let product_fits : SFits w128 c.product.result = search rules in
    let said = simp to_z-of_z at c.in_ok-total-in-Const.ensures in
    let size = constant_size c.args.parts.total total c.product.result c.args.coef c.in-Const.value said.1 (simp to_z-of_z at c.product.ensures.product) in
    rw (c.in-Const.is, to_z-of_z w128 total total_fits) (record {
      sizes = record { coefs = omega arith; constants = size };
      room = λ v w over here few low. (refl, record { first = over.first; second = over.second });
    })

pub returns-in_err-total-in-Const-clause-small : goal.returns-in_err-total-in-Const-clause-small
returns-in_err-total-in-Const-clause-small c =
    let coef_fits : SFits w64 c.args.coef = c.ranges.coef in
    let value_fits : SFits w64 c.in-Const.value = search rules in
    let before_fits : SFits w128 c.args.parts.total = search rules in
    let product_fits : SFits w128 c.product.result = search rules in
    let said = simp to_z-of_z at c.in_err-total-in-Const.ensures in
    let size = constant_size c.args.parts.total (c.args.parts.total -ℤ c.product.result) c.product.result c.args.coef c.in-Const.value refl (simp to_z-of_z at c.product.ensures.product) in
    rw (c.from_residual.ensures, c.in-Const.is) (record {
      sizes = tt;
      room = λ v w over here few low. absurd (said (fits_signed_from_abs w128 (c.args.parts.total -ℤ c.product.result) (omega (arith, size, low))));
    })
