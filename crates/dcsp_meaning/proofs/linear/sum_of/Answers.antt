use Rattle.std.proofs.Common.{◌≡◌, ◌+◌, ◌*◌, ◌≤◌, ◌<◌, ◌+ℤ◌, ◌*ℤ◌, pos, drop, length, get_or, sum_by, arith, rules, SFits, w64}
use Rattle.std.specs.Int.{w128}
use Rattle.std.specs.Prelude.{unsigned_abs}
use Rattle.std.proofs.lemmas.Int.{to_z-of_z}
use Rattle.std.proofs.lemmas.List.Sums.{sum_by-drop_more}
use Rattle.dcsp_meaning.specs.Sums.{sum_of, size_of}
use Rattle.dcsp_meaning.specs.declared.linear.TheConstants.{WIDEST}
use Rattle.dcsp_meaning.proofs.Steps.{next_turn, sum_of-drop}
use Rattle.dcsp_meaning.proofs.linear.sum_of.Goals as goal

pub loop-place-preserved : goal.loop-place-preserved
loop-place-preserved g c =
    let pairs = g.W.Weighted.pairs c.args.weighted.now in
    let k = c.loop-place.place in
    let x = c.coef.result in
    let y = c.value.result in
    let r = c.plus_product-sum.result in
    let pair = get_or pairs k (pos 0, pos 0) in
    let within : k < length pairs = omega arith in
    let x_fits : SFits w64 x = search rules in
    let y_fits : SFits w64 y = search rules in
    let r_fits : SFits w128 r = search rules in
    let said : r ≡ c.loop-place.sum +ℤ (x *ℤ y) = rw (← c.loop-place.sum-is) (simp to_z-of_z at c.plus_product-sum.ensures) in
    let summed : c.loop-place.sum +ℤ sum_of (drop k pairs) ≡ sum_of pairs = rw (← c.loop-place.sum-is) c.loop-place.invariant.summed in
    let fits : unsigned_abs c.loop-place.sum + sum_by size_of (drop k pairs) ≤ WIDEST = rw (← c.loop-place.sum-is) c.loop-place.invariant.fits in
    let rest : sum_of (drop k pairs) ≡ (x *ℤ y) +ℤ sum_of (drop (k + 1) pairs) = rw (c.coef.ensures, c.value.ensures) (sum_of-drop pairs k within) in
    let sizes : sum_by size_of (drop k pairs) ≡ unsigned_abs x * unsigned_abs y + sum_by size_of (drop (k + 1) pairs) = rw (c.coef.ensures, c.value.ensures) (sum_by-drop_more size_of pairs k (pos 0, pos 0) within) in
    let next = next_turn c.loop-place.sum x y r (sum_of (drop k pairs)) (sum_of (drop (k + 1) pairs)) (sum_of pairs) (sum_by size_of (drop k pairs)) (sum_by size_of (drop (k + 1) pairs)) WIDEST said rest sizes summed fits in
    rw (to_z-of_z w128 r r_fits) (record { summed = next.0; fits = next.1 })
