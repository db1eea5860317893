use Rattle.std.proofs.Common.{◌≡◌, ◌<◌, ◌∙◌, ap, arith, length, refl}
use Rattle.abt_parts.specs.Views.{told_at, view_of}
use Rattle.abt_parts.proofs.Slots.{view_stays}
use Rattle.abt_parts.proofs.view.View.make_place.Goals.{then-is_near+in_ok-make_places_before, else-is_near}
use Rattle.abt_parts.proofs.view.View.make_place.Goals as goal

pub returns-clause-told : goal.returns-clause-told
returns-clause-told c =
    let before = c.if-is_near.self in
    let told : view_of before ≡ view_of c.args.self.now = elim c.if-is_near.branch [
      | then-is_near+in_ok-make_places_before w ↦ ap view_of w.self-is ∙ w.make_places_before.ensures.told
      | else-is_near w ↦ ap view_of w.self-is
    ] in
    let size : length before ≡ length c.args.self.now = elim c.if-is_near.branch [
      | then-is_near+in_ok-make_places_before w ↦ ap length w.self-is ∙ w.make_places_before.ensures.slots
      | else-is_near w ↦ ap length w.self-is
    ] in
    let within : c.args.var < length before = omega (arith, size, c.requires) in
    ap view_of c.in_ok-make_one_place.ensures.made ∙ view_stays before c.args.var (told_at before c.args.var) within refl ∙ told
