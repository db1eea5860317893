use Rattle.std.proofs.Common.{◌∙◌, ◌+ℤ◌, ◌*ℤ◌, ap, arith, rules, w64, SFits}
use Rattle.std.specs.Int.{w128}
use Rattle.std.proofs.lemmas.Int.{to_z-of_z, fits_signed_from_abs}
use Rattle.dcsp_meaning.specs.Sums.{stands}
use Rattle.dcsp_meaning.proofs.Steps.{unsigned_abs-add}
use Rattle.dcsp_rule.proofs.pair.BinaryRule.holds.Goals as goal

pub overflow_add-sum : goal.overflow_add-sum
overflow_add-sum c =
    let p = c.product.result in
    let q = c.product-2.result in
    let a_fits : SFits w64 c.args.self.first_coef = search rules in
    let b_fits : SFits w64 c.args.self.second_coef = search rules in
    let p_fits : SFits w128 p = search rules in
    let q_fits : SFits w128 q = search rules in
    let p_small = (simp to_z-of_z at c.product.ensures.size) c.requires.first in
    let q_small = (simp to_z-of_z at c.product-2.ensures.size) c.requires.second in
    rw (to_z-of_z w128 p p_fits, to_z-of_z w128 q q_fits) (fits_signed_from_abs w128 (p +ℤ q) (omega (arith, unsigned_abs-add p q, p_small, q_small)))

pub returns : goal.returns
returns c =
    let self = c.args.self in
    let p = c.product.result in
    let q = c.product-2.result in
    let a_fits : SFits w64 self.first_coef = search rules in
    let b_fits : SFits w64 self.second_coef = search rules in
    let x_fits : SFits w64 c.args.first = c.ranges.first in
    let y_fits : SFits w64 c.args.second = c.ranges.second in
    let p_fits : SFits w128 p = search rules in
    let q_fits : SFits w128 q = search rules in
    let total_fits : SFits w128 self.total = search rules in
    let p_small = (simp to_z-of_z at c.product.ensures.size) c.requires.first in
    let q_small = (simp to_z-of_z at c.product-2.ensures.size) c.requires.second in
    let sum_fits : SFits w128 (p +ℤ q) = fits_signed_from_abs w128 (p +ℤ q) (omega (arith, unsigned_abs-add p q, p_small, q_small)) in
    let p_is = simp to_z-of_z at c.product.ensures.product in
    let q_is = simp to_z-of_z at c.product-2.ensures.product in
    (simp to_z-of_z at c.holds.ensures) ∙ ap (λ z. stands self.rel (z +ℤ q) self.total) p_is ∙ ap (λ z. stands self.rel ((self.first_coef *ℤ c.args.first) +ℤ z) self.total) q_is
