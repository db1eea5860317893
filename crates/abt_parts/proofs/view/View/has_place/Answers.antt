use Rattle.std.proofs.Common.{◌≡◌, ◌∙◌, ap, sym}
use Rattle.std.specs.Prelude.{is_some}
use Rattle.dcsp_common.specs.Entries.{item_for}
use Rattle.abt_parts.specs.Views.{has_place}
use Rattle.abt_parts.proofs.Slots.{slot_at}
use Rattle.abt_parts.proofs.view.View.has_place.Goals as goal

pub returns : goal.returns
returns c =
    let places = c.self.inside.places.items in
    let item : c.item_of.result ≡ item_for places c.args.var = rw c.deref.ensures.value at c.item_of.ensures in
    c.is_some.ensures ∙ ap is_some (item ∙ sym (slot_at c.self.inside.agents places c.args.var c.self.invariant.below)) ∙ ap (λ slots. has_place slots c.args.var) c.self.view_is
