use Rattle.std.proofs.Common.{◌∙◌, ◌+ℤ◌, ◌*ℤ◌, ap, sym, arith, rules, w64, SFits}
use Rattle.std.specs.Int.{w128}
use Rattle.std.proofs.lemmas.Int.{to_z-of_z, fits_signed_from_abs}
use Rattle.dcsp_meaning.proofs.Steps.{unsigned_abs-add}
use Rattle.dcsp_row.proofs.LineLaws.{two_products}
use Rattle.dcsp_row.proofs.line.line_of_pair.Goals as goal

pub overflow_add-result : goal.overflow_add-result
overflow_add-result g c =
    let p = c.product_of-base.result.0 in
    let q = c.product_of-more.result.0 in
    let a_fits : SFits w64 c.args.pair.first_coef = search rules in
    let b_fits : SFits w64 c.args.pair.second_coef = search rules in
    let p_fits : SFits w128 p = search rules in
    let q_fits : SFits w128 q = search rules in
    let p_small = ((simp to_z-of_z at c.product_of-base.ensures.size) c.requires.first).0 in
    let q_small = ((simp to_z-of_z at c.product_of-more.ensures.size) c.requires.second).0 in
    rw (to_z-of_z w128 p p_fits, to_z-of_z w128 q q_fits) (fits_signed_from_abs w128 (p +ℤ q) (omega (arith, unsigned_abs-add p q, p_small, q_small)))

pub overflow_add-result-2 : goal.overflow_add-result-2
overflow_add-result-2 g c =
    let p = c.product_of-base.result.1 in
    let q = c.product_of-more.result.1 in
    let a_fits : SFits w64 c.args.pair.first_coef = search rules in
    let b_fits : SFits w64 c.args.pair.second_coef = search rules in
    let p_fits : SFits w64 p = search rules in
    let q_fits : SFits w64 q = search rules in
    let p_small = ((simp to_z-of_z at c.product_of-base.ensures.size) c.requires.first).1 in
    let q_small = ((simp to_z-of_z at c.product_of-more.ensures.size) c.requires.second).1 in
    rw (to_z-of_z w64 p p_fits, to_z-of_z w64 q q_fits) (fits_signed_from_abs w64 (p +ℤ q) (omega (arith, unsigned_abs-add p q, p_small, q_small)))

pub returns-clause-base : goal.returns-clause-base
returns-clause-base g c =
    let p = c.product_of-base.result.0 in
    let q = c.product_of-more.result.0 in
    let a_fits : SFits w64 c.args.pair.first_coef = search rules in
    let b_fits : SFits w64 c.args.pair.second_coef = search rules in
    let p_fits : SFits w128 p = search rules in
    let q_fits : SFits w128 q = search rules in
    let p_small = ((simp to_z-of_z at c.product_of-base.ensures.size) c.requires.first).0 in
    let q_small = ((simp to_z-of_z at c.product_of-more.ensures.size) c.requires.second).0 in
    let sum_fits : SFits w128 (p +ℤ q) = fits_signed_from_abs w128 (p +ℤ q) (omega (arith, unsigned_abs-add p q, p_small, q_small)) in
    rw (to_z-of_z w128 p p_fits, to_z-of_z w128 q q_fits, to_z-of_z w128 (p +ℤ q) sum_fits) (omega (arith, unsigned_abs-add p q, p_small, q_small))

pub returns-clause-sum : goal.returns-clause-sum
returns-clause-sum g c = λ x.
    let p = c.product_of-base.result.0 in
    let q = c.product_of-more.result.0 in
    let a = c.product_of-base.result.1 in
    let b = c.product_of-more.result.1 in
    let first_fits : SFits w64 c.args.pair.first_coef = search rules in
    let second_fits : SFits w64 c.args.pair.second_coef = search rules in
    let p_fits : SFits w128 p = search rules in
    let q_fits : SFits w128 q = search rules in
    let a_fits : SFits w64 a = search rules in
    let b_fits : SFits w64 b = search rules in
    let p_small = (simp to_z-of_z at c.product_of-base.ensures.size) c.requires.first in
    let q_small = (simp to_z-of_z at c.product_of-more.ensures.size) c.requires.second in
    let sum_fits : SFits w128 (p +ℤ q) = fits_signed_from_abs w128 (p +ℤ q) (omega (arith, unsigned_abs-add p q, p_small.0, q_small.0)) in
    let own_fits : SFits w64 (a +ℤ b) = fits_signed_from_abs w64 (a +ℤ b) (omega (arith, unsigned_abs-add a b, p_small.1, q_small.1)) in
    let one = (simp to_z-of_z at c.product_of-base.ensures.product) x in
    let other = (simp to_z-of_z at c.product_of-more.ensures.product) x in
    rw (to_z-of_z w128 p p_fits, to_z-of_z w128 q q_fits, to_z-of_z w64 a a_fits, to_z-of_z w64 b b_fits, to_z-of_z w128 (p +ℤ q) sum_fits, to_z-of_z w64 (a +ℤ b) own_fits)
    (two_products p q a b x _ _ (one ∙ ap (λ z. c.args.pair.first_coef *ℤ z) (sym (c.in-Some.ensures.value x))) (other ∙ ap (λ z. c.args.pair.second_coef *ℤ z) (sym (c.in-Some-value_or_open.ensures.value x))))
