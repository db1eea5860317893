use Rattle.std.proofs.Common.{◌≡◌, ◌<◌, pos, length, get_or, arith, rules, SFits, w64}
use Rattle.std.proofs.lemmas.Int.{to_z-of_z}
use Rattle.dcsp_meaning.specs.Sums.{width_of}
use Rattle.dcsp_meaning.specs.declared.linear.TheConstants.{WIDEST}
use Rattle.dcsp_meaning.proofs.Steps.{greatest-drop, greatest-end, told_narrow, told_wide}
use Rattle.dcsp_meaning.proofs.linear.width.Goals as goal

pub returns-then-width-gt-WIDEST : goal.returns-then-width-gt-WIDEST
returns-then-width-gt-WIDEST c =
    let k = c.loop-place.place in
    let in_coefs : k < length c.args.coefs.now = omega arith in
    let in_greatest : k < length c.args.greatest.now = omega arith in
    let fits : SFits w64 (get_or c.args.coefs.now k (pos 0)) = search rules in
    let said = simp to_z-of_z at c.plus_greatest-width.ensures in
    told_wide (width_of c.args.coefs.now c.args.greatest.now c.args.total) WIDEST (omega (arith, greatest-drop c.args.coefs.now c.args.greatest.now k in_coefs in_greatest))

pub loop-place-preserved : goal.loop-place-preserved
loop-place-preserved c =
    let k = c.loop-place.place in
    let in_coefs : k < length c.args.coefs.now = omega arith in
    let in_greatest : k < length c.args.greatest.now = omega arith in
    let fits : SFits w64 (get_or c.args.coefs.now k (pos 0)) = search rules in
    let said = simp to_z-of_z at c.plus_greatest-width.ensures in
    record {
      summed = omega (arith, greatest-drop c.args.coefs.now c.args.greatest.now k in_coefs in_greatest);
      fits = omega arith;
    }

pub returns : goal.returns
returns c =
    let end = greatest-end c.args.coefs.now c.args.greatest.now c.loop-place.place (omega arith) in
    let all : c.loop-place.width ≡ width_of c.args.coefs.now c.args.greatest.now c.args.total = omega (arith, end) in
    rw (← all) (told_narrow c.loop-place.width WIDEST (omega arith))
