use Rattle.std.proofs.Common.{◌≡◌, ◌*ℤ◌, arith, rules, SFits}
use Rattle.std.specs.Int.{w128}
use Rattle.std.proofs.lemmas.Int.{to_z-of_z, ints, fits_signed_mul}
use Rattle.dcsp_meaning.proofs.arithmetic.product.Goals as goal

pub returns : goal.returns
returns c =
    let a = c.args.a in
    let b = c.args.b in
    let a_is : c.from.result ≡ a = omega (arith, ints, c.from.ensures) in
    let b_is : c.from-2.result ≡ b = omega (arith, ints, c.from-2.ensures) in
    let a_fits : SFits w128 a = search rules in
    let b_fits : SFits w128 b = search rules in
    let product_fits : SFits w128 (a *ℤ b) = fits_signed_mul w128 a b 9223372036854775808 9223372036854775808 (omega (arith, ints)) (omega (arith, ints)) (omega arith) in
    rw (a_is, b_is) (simp to_z-of_z)
