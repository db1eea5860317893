use Rattle.std.proofs.Common.{◌∙◌, ap, sym, not, ◌+ℤ◌, ◌*ℤ◌, rules, w64, SFits}
use Rattle.std.specs.Int.{w128}
use Rattle.std.proofs.lemmas.Int.{to_z-of_z}
use Rattle.dcsp_meaning.specs.Sums.{stands}
use Rattle.dcsp_row.specs.Rows.{own_at}
use Rattle.dcsp_row.proofs.CutLaws.{told_coef}
use Rattle.dcsp_row.proofs.sums.missed_line.Goals as goal

pub returns-in-Differ : goal.returns-in-Differ
returns-in-Differ c = λ k l.
    let base_fits : SFits w128 c.args.line.base = search rules in
    let total_fits : SFits w128 c.args.total = search rules in
    let coef_fits : SFits w64 c.unwrap_or-coef.result = search rules in
    (simp to_z-of_z at c.missed_apart.ensures) k l ∙ ap (λ r. not (stands r (c.args.line.base +ℤ (c.unwrap_or-coef.result *ℤ own_at c.args.domain.now k)) c.args.total)) (sym c.in-Differ.is)
    ∙ told_coef c.args.rel c.args.line c.args.total c.unwrap_or-coef.result (sym c.unwrap_or-coef.ensures) (own_at c.args.domain.now k)

pub returns-in_default : goal.returns-in_default
returns-in_default c = λ k l.
    let base_fits : SFits w128 c.args.line.base = search rules in
    let total_fits : SFits w128 c.args.total = search rules in
    let coef_fits : SFits w64 c.unwrap_or-coef.result = search rules in
    (simp to_z-of_z at c.missed_with.ensures) k l ∙ told_coef c.args.rel c.args.line c.args.total c.unwrap_or-coef.result (sym c.unwrap_or-coef.ensures) (own_at c.args.domain.now k)
