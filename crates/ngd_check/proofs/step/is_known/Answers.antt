use Rattle.std.proofs.Common.{sym, ◌∙◌, ap, arith, List, w64, SFits, rules}
use Rattle.std.specs.Prelude.{ℤ}
use Rattle.std.proofs.lemmas.Int.{to_z-of_z}
use Rattle.dcsp_domain.specs.Sets.{has}
use Rattle.ngd_check.proofs.Parts.{has-In, In-has}
use Rattle.ngd_check.proofs.step.is_known.Goals as goal

pub returns : goal.returns
returns c =
    let fits : SFits w64 c.args.pair.value = search rules in
    let placed = simp to_z-of_z at c.place_of.ensures.has in
    let said = c.is_some.ensures ∙ placed ∙ ap (λ (d : List ℤ). has d c.args.pair.value) c.domain.ensures in
    (λ t. record { variable = omega arith; value = has-In _ _ (sym said ∙ t) }, λ h. said ∙ In-has _ _ h.value)
