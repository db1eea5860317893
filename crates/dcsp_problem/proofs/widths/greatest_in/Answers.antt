use Rattle.std.proofs.Common.{◌≡◌, ◌<◌, ◌-◌, ℕ, max, length, arith, rules, ap, sym, ◌∙◌, subst, SFits, w64}
use Rattle.std.specs.Prelude.{slice_get, unsigned_abs, Some}
use Rattle.std.proofs.lemmas.Int.{to_z-of_z}
use Rattle.dcsp_problem.proofs.WidthLaws.{greatest_is}
use Rattle.dcsp_problem.proofs.widths.greatest_in.Goals as goal

pub returns : goal.returns
returns c =
    let xs = c.args.domain.now in
    let count = c.len-count.ensures.len in
    let some : 0 < length xs = omega arith in
    let last = subst (λ (z : ℕ). slice_get xs (z - 1) ≡ Some c.value-2.result) count c.value-2.ensures in
    let is = greatest_is xs c.value.result c.value-2.result c.len-count.ensures.rising some c.value.ensures last in
    let low_fits : SFits w64 c.value.result = search rules in
    let high_fits : SFits w64 c.value-2.result = search rules in
    let low = simp to_z-of_z at c.unsigned_abs-lowest.ensures.value in
    let high = simp to_z-of_z at c.unsigned_abs-highest.ensures.value in
    c.max.ensures ∙ ap (λ z. max z c.unsigned_abs-highest.result) low ∙ ap (λ z. max (unsigned_abs c.value.result) z) high ∙ sym is
