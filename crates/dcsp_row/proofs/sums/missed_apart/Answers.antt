use Rattle.std.proofs.Common.{◌≡◌, ◌∙◌, ap, arith, not, negsuc, ◌+ℤ◌, ◌*ℤ◌, ℤ, rules, SFits}
use Rattle.std.specs.Int.{w128}
use Rattle.std.proofs.lemmas.Int.{ints, to_z-of_z}
use Rattle.dcsp_meaning.specs.Sums.{stands}
use Rattle.dcsp_meaning.specs.declared.linear.Rel.TheVariants.{Differ}
use Rattle.dcsp_row.specs.Rows.{own_at}
use Rattle.dcsp_row.proofs.sums.missed_apart.Goals as goal

pub returns-then-coef-eqminus1 : goal.returns-then-coef-eqminus1
returns-then-coef-eqminus1 c = λ k l.
    let base_fits : SFits w128 c.args.base = search rules in
    let total_fits : SFits w128 c.args.total = search rules in
    let is : negsuc 0 ≡ c.args.coef = omega (arith, ints, c.if-coef-eqminus1.true) in
    (simp to_z-of_z at c.missed_with-then-coef-eqminus1.ensures) k l ∙ ap (λ (n : ℤ). not (stands Differ (c.args.base +ℤ (n *ℤ own_at c.args.domain.now k)) c.args.total)) is
