use Rattle.std.proofs.Common.{◌≡◌, ◌∙◌, Some, ap, refl, not, pos, neg_ℤ, ◌-ℤ◌, arith, rules, SFits}
use Rattle.std.specs.Int.{w128}
use Rattle.std.proofs.lemmas.Int.{ints, to_z-of_z}
use Rattle.dcsp_row.specs.Rows.{own_at}
use Rattle.dcsp_row.proofs.CutLaws.{added_off, taken_off, none_off}
use Rattle.dcsp_row.proofs.sums.missed_with.Goals as goal

pub returns-then-coef-gt0 : goal.returns-then-coef-gt0
returns-then-coef-gt0 c = λ k l.
    let base = c.args.base in
    let total = c.args.total in
    let coef = c.args.coef in
    let factor = c.unsigned_abs-factor.result in
    let total_fits : SFits w128 total = search rules in
    let base_fits : SFits w128 base = search rules in
    let fits : SFits w128 (total -ℤ base) = search rules in
    let times : coef ≡ pos factor = omega (arith, ints, c.unsigned_abs-factor.ensures.value, c.if-coef-gt0.true) in
    c.product_span.ensures k l ∙ added_off c.args.rel (record { base = base; own = Some coef }) total (total -ℤ base) coef c.missed_before.result factor
    refl times refl (simp to_z-of_z at c.missed_before.ensures.cut) (own_at c.args.domain.now k)

pub returns-then-coef-lt0 : goal.returns-then-coef-lt0
returns-then-coef-lt0 c = λ k l.
    let base = c.args.base in
    let total = c.args.total in
    let coef = c.args.coef in
    let factor = c.unsigned_abs-factor.result in
    let total_fits : SFits w128 total = search rules in
    let base_fits : SFits w128 base = search rules in
    let fits : SFits w128 (base -ℤ total) = search rules in
    let times : coef ≡ neg_ℤ (pos factor) = omega (arith, ints, c.unsigned_abs-factor.ensures.value, c.if-coef-lt0.true) in
    c.product_span-then-coef-lt0.ensures k l ∙ taken_off c.args.rel (record { base = base; own = Some coef }) total (base -ℤ total) coef c.missed_after.result factor
    refl times refl (simp to_z-of_z at c.missed_after.ensures.cut) (own_at c.args.domain.now k)

pub returns-else-coef-lt0 : goal.returns-else-coef-lt0
returns-else-coef-lt0 c = λ k l.
    let zero : c.args.coef ≡ pos 0 = omega (arith, ints, c.if-coef-gt0.false, c.if-coef-lt0.false) in
    let total_fits : SFits w128 c.args.total = search rules in
    let base_fits : SFits w128 c.args.base = search rules in
    let told = simp to_z-of_z at c.holds.ensures in
    c.whole.ensures k ∙ ap not (told ∙ none_off c.args.rel (record { base = c.args.base; own = Some c.args.coef }) c.args.total zero (own_at c.args.domain.now k))
