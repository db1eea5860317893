use Rattle.std.proofs.Common.{◌≡◌, ◌<◌, ◌∙◌, ap, sym, subst, length, nat_lt, arith, ℕ, ℤ, SFits, to_z, of_z, w64, rules}
use Rattle.std.specs.Int.{w128}
use Rattle.std.specs.Prelude.{int_lt, pos, ◌*ℤ◌}
use Rattle.std.specs.Ordering.{int_eq}
use Rattle.std.proofs.lemmas.Int.{ints, to_z-of_z}
use Rattle.dcsp_row.specs.Rows.{own_at}
use Rattle.dcsp_row.proofs.Domains.{get_or_found}
use Rattle.dcsp_row.proofs.CutLaws.{nowhere, once, only_there}
use Rattle.dcsp_row.proofs.cut.span_of_number.Goals as goal

pub returns-then-from-len : goal.returns-then-from-len
returns-then-from-len c = λ k l.
    let values = c.args.domain.now in
    let factor = c.args.factor in
    let from = c.count_below-from.result in
    let fits : SFits w128 c.args.number = c.ranges.number in
    let bound : to_z w128 (of_z w128 c.args.number) ≡ c.args.number = simp to_z-of_z in
    let count : (k : ℕ) → k < length values → int_lt (pos factor *ℤ own_at values k) c.args.number ≡ nat_lt k from =
    λ k l. ap (int_lt (pos factor *ℤ own_at values k)) (sym bound) ∙ c.count_below-from.ensures k l in
    c.whole.ensures k ∙ nowhere factor c.requires values c.len.ensures.rising c.args.number from count (λ within. absurd (omega (arith, within, c.if-from-len.true, c.len.ensures.len))) k l

pub returns-then-product-number : goal.returns-then-product-number
returns-then-product-number c = λ k l.
    let values = c.args.domain.now in
    let factor = c.args.factor in
    let from = c.count_below-from.result in
    let fits : SFits w128 c.args.number = c.ranges.number in
    let bound : to_z w128 (of_z w128 c.args.number) ≡ c.args.number = simp to_z-of_z in
    let count : (k : ℕ) → k < length values → int_lt (pos factor *ℤ own_at values k) c.args.number ≡ nat_lt k from =
    λ k l. ap (int_lt (pos factor *ℤ own_at values k)) (sym bound) ∙ c.count_below-from.ensures k l in
    let value_fits : SFits w64 c.value.result = search rules in
    let value : to_z w64 (of_z w64 c.value.result) ≡ c.value.result = simp to_z-of_z in
    let at = get_or_found values from c.value.result (pos 0) c.value.ensures in
    let product : pos factor *ℤ own_at values from ≡ c.product.result = ap (λ (z : ℤ). pos factor *ℤ z) (at ∙ sym value) ∙ sym c.product.ensures in
    c.whole-then-product-number.ensures k
    ∙ nowhere factor c.requires values c.len.ensures.rising c.args.number from count (λ within same. c.if-product-number.true (ap (of_z w128) (sym product ∙ same))) k l

pub returns : goal.returns
returns c = λ k l.
    let values = c.args.domain.now in
    let factor = c.args.factor in
    let from = c.count_below-from.result in
    let fits : SFits w128 c.args.number = c.ranges.number in
    let bound : to_z w128 (of_z w128 c.args.number) ≡ c.args.number = simp to_z-of_z in
    let count : (k : ℕ) → k < length values → int_lt (pos factor *ℤ own_at values k) c.args.number ≡ nat_lt k from =
    λ k l. ap (int_lt (pos factor *ℤ own_at values k)) (sym bound) ∙ c.count_below-from.ensures k l in
    let value_fits : SFits w64 c.value.result = search rules in
    let value : to_z w64 (of_z w64 c.value.result) ≡ c.value.result = simp to_z-of_z in
    let at = get_or_found values from c.value.result (pos 0) c.value.ensures in
    let product : pos factor *ℤ own_at values from ≡ c.product.result = ap (λ (z : ℤ). pos factor *ℤ z) (at ∙ sym value) ∙ sym c.product.ensures in
    let same : c.product.result ≡ c.args.number = omega (arith, ints, c.if-product-number.false) in
    only_there factor c.requires values c.len.ensures.rising c.args.number from count (product ∙ same) k l

pub returns-in-Ok : goal.returns-in-Ok
returns-in-Ok c = λ k l.
    let x = own_at c.args.domain.now k in
    let number_fits : SFits w128 c.args.number = c.ranges.number in
    let number : to_z w128 (of_z w128 c.args.number) ≡ c.args.number = simp to_z-of_z in
    let is : c.in-Ok.value ≡ c.args.number = c.in-Ok.ensures.1 ∙ number in
    let fits : SFits w64 c.in-Ok.value = subst (SFits w64) (sym c.in-Ok.ensures.1) c.in-Ok.ensures.0 in
    let value : to_z w64 (of_z w64 c.in-Ok.value) ≡ c.in-Ok.value = simp to_z-of_z in
    let product : pos c.args.factor *ℤ x ≡ x = ap (λ f. pos f *ℤ x) c.if-factor-eq1.true ∙ once x in
    c.span_of_value.ensures k l ∙ ap (int_eq x) (value ∙ is) ∙ ap (λ z. int_eq z c.args.number) (sym product)
