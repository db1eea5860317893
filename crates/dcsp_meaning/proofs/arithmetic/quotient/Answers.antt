use Rattle.std.proofs.Common.{◌≡◌, arith, rules, SFits, int_div}
use Rattle.std.specs.Int.{w128}
use Rattle.std.proofs.lemmas.Int.{ints, quot_is, fits_signed_from_abs}
use Rattle.dcsp_meaning.proofs.Quotients.{quotient-le}
use Rattle.dcsp_meaning.proofs.arithmetic.quotient.Goals as goal

pub returns : goal.returns
returns c =
    let a = c.args.a in
    let b = c.args.b in
    let a_is : c.from.result ≡ a = omega (arith, ints, c.from.ensures) in
    let b_is : c.from-2.result ≡ b = omega (arith, ints, c.from-2.ensures) in
    let a_fits : SFits w128 a = search rules in
    let b_fits : SFits w128 b = search rules in
    let quotient_fits : SFits w128 (int_div a b) = fits_signed_from_abs w128 (int_div a b) (omega (arith, ints, quotient-le a b)) in
    rw (a_is, b_is) (quot_is w128 a b a_fits b_fits quotient_fits)
