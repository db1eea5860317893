use Rattle.std.proofs.Common.{◌∙◌, sym, ap, [], ◌∷◌, Some}
use Rattle.dcsp_defs.specs.declared.Step.{Step}
use Rattle.dcsp_defs.specs.declared.entry.Entry.TheVariants.{Step as A_step, Delete}
use Rattle.ngd_log.specs.Lent.{lent_in}
use Rattle.ngd_log.specs.Pieces.{Kept}
use Rattle.ngd_log.proofs.pieces.LogReader.lent.Goals as goal

pub returns-in_default : goal.returns-in_default
returns-in_default c = sym (ap (λ kind. lent_in kind c.self.inside.body.gathered) c.in_default.is) ∙ ap (λ (r : Kept). r.lent) c.self.view_is

pub returns-in-Step : goal.returns-in-Step
returns-in-Step c =
    let g = c.self.inside.body.gathered in
    ap (λ (s : Step). A_step s ∷ []) c.step.ensures
    ∙ sym (ap (λ kind. lent_in kind g) (c.in-Some.is ∙ ap Some c.in-Step.is))
    ∙ ap (λ (r : Kept). r.lent) c.self.view_is

pub returns-in-Delete : goal.returns-in-Delete
returns-in-Delete c =
    let g = c.self.inside.body.gathered in
    ap (λ ns. Delete ns ∷ []) c.deref.ensures.value
    ∙ sym (ap (λ kind. lent_in kind g) (c.in-Some.is ∙ ap Some c.in-Delete.is))
    ∙ ap (λ (r : Kept). r.lent) c.self.view_is
