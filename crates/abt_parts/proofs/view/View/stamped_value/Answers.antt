use Rattle.std.proofs.Common.{◌≡◌, ◌∙◌, ap, sym, None, Some}
use Rattle.std.specs.Prelude.{unwrap_or}
use Rattle.dcsp_common.specs.Entries.{item_for}
use Rattle.abt_parts.specs.Views.{told_at}
use Rattle.abt_parts.proofs.Slots.{slot_at}
use Rattle.abt_parts.proofs.view.View.stamped_value.Goals as goal

pub returns-in_err-item_of : goal.returns-in_err-item_of
returns-in_err-item_of c =
    let places = c.self.inside.places.items in
    let none : None ≡ item_for places c.args.var = rw c.deref.ensures.value at c.in_err-item_of.ensures in
    c.from_residual.ensures ∙ ap (λ told. unwrap_or told None) (none ∙ sym (slot_at c.self.inside.agents places c.args.var c.self.invariant.below)) ∙ ap (λ slots. told_at slots c.args.var) c.self.view_is

pub returns : goal.returns
returns c =
    let places = c.self.inside.places.items in
    let some : Some c.in_ok-item_of.field-0 ≡ item_for places c.args.var = rw c.deref.ensures.value at c.in_ok-item_of.ensures in
    ap (λ told. unwrap_or told None) (some ∙ sym (slot_at c.self.inside.agents places c.args.var c.self.invariant.below)) ∙ ap (λ slots. told_at slots c.args.var) c.self.view_is
