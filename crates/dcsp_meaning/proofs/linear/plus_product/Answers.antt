use Rattle.std.proofs.Common.{◌≡◌, ◌+ℤ◌, ◌*ℤ◌, arith, rules, SFits}
use Rattle.std.specs.Int.{w128}
use Rattle.std.proofs.lemmas.Int.{to_z-of_z, ints, unsigned_abs-mul, fits_signed_from_abs}
use Rattle.dcsp_meaning.proofs.Steps.{unsigned_abs-add}
use Rattle.dcsp_meaning.proofs.linear.plus_product.Goals as goal

pub returns : goal.returns
returns c =
    let coef = c.args.coef in
    let value = c.args.value in
    let coef_is : c.from.result ≡ coef = omega (arith, ints, c.from.ensures) in
    let value_is : c.from-2.result ≡ value = omega (arith, ints, c.from-2.ensures) in
    let size = unsigned_abs-mul coef value in
    let total_fits : SFits w128 c.args.sum = search rules in
    let coef_fits : SFits w128 coef = search rules in
    let value_fits : SFits w128 value = search rules in
    let product_fits : SFits w128 (coef *ℤ value) = fits_signed_from_abs w128 (coef *ℤ value) (omega (arith, size)) in
    let sum_fits : SFits w128 (c.args.sum +ℤ (coef *ℤ value)) = fits_signed_from_abs w128 (c.args.sum +ℤ (coef *ℤ value)) (omega (arith, size, unsigned_abs-add c.args.sum (coef *ℤ value))) in
    rw (coef_is, value_is) (simp to_z-of_z)
