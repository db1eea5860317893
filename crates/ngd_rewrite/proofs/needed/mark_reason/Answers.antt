use Rattle.std.proofs.Common.{◌≡◌, true, refl, sym, subst}
use Rattle.std.proofs.lemmas.Bool.{eq-eqb}
use Rattle.dcsp_defs.specs.declared.Reason.{Reason}
use Rattle.ngd_rewrite.specs.Needed.{names_step}
use Rattle.ngd_rewrite.proofs.needed.mark_reason.Goals as goal

pub mark-requires : goal.mark-requires
mark-requires c =
    let number = c.in-Earlier.number in
    c.requires number (subst (λ (r : Reason). names_step r number ≡ true) (sym c.in-Earlier.is) (eq-eqb number number refl))
