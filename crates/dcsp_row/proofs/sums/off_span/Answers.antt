use Rattle.std.proofs.Common.{◌≡◌, ◌≢◌, ◌∙◌, ap, sym, ℤ, pos, Option, Some, arith, rules, not, of_z, w64, SFits}
use Rattle.std.specs.Int.{w128}
use Rattle.std.proofs.lemmas.Int.{ints, to_z-of_z}
use Rattle.std.specs.Prelude.{unwrap_or}
use Rattle.dcsp_meaning.specs.Sums.{stands}
use Rattle.dcsp_rule.specs.Rules.{is_told}
use Rattle.dcsp_row.specs.declared.sums.SumTruth.{SumTruth}
use Rattle.dcsp_row.specs.Lines.{line_at, told_at}
use Rattle.dcsp_row.specs.Rows.{own_at}
use Rattle.dcsp_row.proofs.CutLaws.{told_false}
use Rattle.dcsp_row.proofs.sums.off_span.Goals as goal

pub returns-else-truth-eq1-clause-off : goal.returns-else-truth-eq1-clause-off
returns-else-truth-eq1-clause-off c = λ k l.
    let rel = c.args.opened.rel in
    let line = c.args.opened.line in
    let truth = c.in-By.truth in
    let x = own_at c.args.domain.now k in
    let other : truth ≢ pos 1 = λ e. c.if-truth-eq1.false (ap (of_z w64) e) in
    let total : c.args.opened.total ≡ Some c.in_ok-total.total = search rules in
    let fits : SFits w64 c.in_ok-total.total = search rules in
    let wide_fits : SFits w128 c.from.result = search rules in
    let wide : c.from.result ≡ c.in_ok-total.total = omega (arith, ints, c.from.ensures) in
    let missed = simp to_z-of_z at c.missed_line-missed.ensures in
    c.others.ensures k ∙ ap not (missed k l ∙ ap (λ t. not (stands rel (line_at line x) t)) wide) ∙ told_false (stands rel (line_at line x) c.in_ok-total.total) truth other
    ∙ sym (ap (λ (o : Option ℤ). not (is_told (Some truth) (stands rel (line_at line x) (unwrap_or o x)))) total)
    ∙ sym (ap (λ (t : SumTruth). not (is_told (told_at t x) (stands rel (line_at line x) (unwrap_or c.args.opened.total x)))) c.in-By.is)
