use Rattle.std.proofs.Common.{◌≡◌, true, refl, sym, subst}
use Rattle.std.proofs.lemmas.Bool.{eq-eqb}
use Rattle.dcsp_defs.specs.declared.Reason.{Reason}
use Rattle.ngd_rewrite.specs.Needed.{names_rule}
use Rattle.ngd_rewrite.proofs.rules.mark_reason.Goals as goal

pub mark-requires : goal.mark-requires
mark-requires c =
    let rule = c.in-Rule.rule in
    c.requires rule (subst (λ (r : Reason). names_rule r rule ≡ true) (sym c.in-Rule.is) (eq-eqb rule rule refl))
