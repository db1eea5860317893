use Rattle.std.proofs.Common.{◌≡◌, ◌∙◌, ap, cond, false, sym, None, Some}
use Rattle.std.specs.Prelude.{is_some}
use Rattle.dcsp_defs.specs.Words.{update}
use Rattle.abt_defs.specs.Steps.{is_newer}
use Rattle.abt_parts.specs.Views.{has_place, stamped_in, stamped_of, view_of}
use Rattle.abt_parts.proofs.Slots.{nothing_told, place_within, view_put}
use Rattle.abt_parts.proofs.view.View.tell.Goals as goal

pub returns-in_ok-make_place-in-None-clause-view :
    goal.returns-in_ok-make_place-in-None-clause-view
returns-in_ok-make_place-in-None-clause-view c =
    let old = c.args.self.now in
    let var = c.args.var in
    let none : has_place old var ≡ false = ap is_some (sym c.in-None.ensures.slot) in
    let kept = c.in-None.ensures.kept none in
    let made = c.in_ok-make_place-in-None.ensures in
    let told : view_of c.make_place.new.self ≡ view_of old = made.told ∙ ap view_of kept in
    let nothing : view_of old var ≡ None = ap stamped_in (nothing_told old var none) in
    ap view_of c.put_told.ensures
    ∙ view_put c.make_place.new.self var c.args.told (place_within c.make_place.new.self var made.place)
    ∙ ap (λ v. update v var (Some (stamped_of c.args.told))) told
    ∙ sym (ap (λ was. cond (is_newer was c.args.told.stamp) (update (view_of old) var (Some (stamped_of c.args.told))) (view_of old)) nothing)
