use Rattle.std.proofs.Common.{◌≡◌, ◌<◌, ◌+◌, ◌-◌, ◌/◌, ◌∙◌, ap, sym, length, arith, true, false, ℤ, SFits, to_z, of_z, rules, w64}
use Rattle.std.specs.Int.{w128}
use Rattle.std.specs.Prelude.{int_lt, pos, ◌*ℤ◌}
use Rattle.std.proofs.lemmas.Int.{ints, to_z-of_z}
use Rattle.dcsp_row.proofs.Domains.{get_or_found}
use Rattle.dcsp_row.proofs.CutLaws.{below_all, above_all, rises}
use Rattle.dcsp_row.proofs.cut.count_by_halves.Goals as goal

pub loop-low-preserved-then-product-bound : goal.loop-low-preserved-then-product-bound
loop-low-preserved-then-product-bound c =
    let values = c.args.domain.now in
    let factor = c.args.factor in
    let middle = c.loop-low.low + (c.loop-low.high - c.loop-low.low) / 2 in
    let inside : middle < length values = omega (arith, c.loop-low-test.true, c.loop-low.invariant.within) in
    let fits : SFits w128 c.args.bound = c.ranges.bound in
    let bound : to_z w128 (of_z w128 c.args.bound) ≡ c.args.bound = simp to_z-of_z in
    let value_fits : SFits w64 c.value.result = search rules in
    let value : to_z w64 (of_z w64 c.value.result) ≡ c.value.result = simp to_z-of_z in
    let product : pos factor *ℤ c.value.result ≡ c.product.result = ap (λ (z : ℤ). pos factor *ℤ z) (sym value) ∙ sym c.product.ensures in
    let at = get_or_found values middle c.value.result (pos 0) c.value.ensures in
    let test : int_lt c.product.result c.args.bound ≡ true = grind (arith, ints, c.if-product-bound.true) in
    let here = ap (λ (z : ℤ). int_lt (pos factor *ℤ z) (to_z w128 (of_z w128 c.args.bound))) at ∙ ap (λ (z : ℤ). int_lt z (to_z w128 (of_z w128 c.args.bound))) product ∙ ap (int_lt c.product.result) bound ∙ test in
    record {
      order = omega (arith, c.loop-low-test.true);
      within = c.loop-low.invariant.within;
      below = below_all (λ x. pos factor *ℤ x) (rises factor c.requires) values c.len-high.ensures.rising middle inside (to_z w128 (of_z w128 c.args.bound)) here;
      above = c.loop-low.invariant.above;
    }

pub loop-low-preserved : goal.loop-low-preserved
loop-low-preserved c =
    let values = c.args.domain.now in
    let factor = c.args.factor in
    let middle = c.loop-low.low + (c.loop-low.high - c.loop-low.low) / 2 in
    let fits : SFits w128 c.args.bound = c.ranges.bound in
    let bound : to_z w128 (of_z w128 c.args.bound) ≡ c.args.bound = simp to_z-of_z in
    let value_fits : SFits w64 c.value.result = search rules in
    let value : to_z w64 (of_z w64 c.value.result) ≡ c.value.result = simp to_z-of_z in
    let product : pos factor *ℤ c.value.result ≡ c.product.result = ap (λ (z : ℤ). pos factor *ℤ z) (sym value) ∙ sym c.product.ensures in
    let at = get_or_found values middle c.value.result (pos 0) c.value.ensures in
    let test : int_lt c.product.result c.args.bound ≡ false = grind (arith, ints, c.if-product-bound.false) in
    let here = ap (λ (z : ℤ). int_lt (pos factor *ℤ z) (to_z w128 (of_z w128 c.args.bound))) at ∙ ap (λ (z : ℤ). int_lt z (to_z w128 (of_z w128 c.args.bound))) product ∙ ap (int_lt c.product.result) bound ∙ test in
    record {
      order = omega arith;
      within = omega (arith, c.loop-low-test.true, c.loop-low.invariant.within);
      below = c.loop-low.invariant.below;
      above = above_all (λ x. pos factor *ℤ x) (rises factor c.requires) values c.len-high.ensures.rising middle (to_z w128 (of_z w128 c.args.bound)) here;
    }
