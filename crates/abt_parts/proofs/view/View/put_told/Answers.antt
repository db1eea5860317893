use Rattle.std.proofs.Common.{◌≡◌, ◌∙◌, ap, arith, false, length, sym, set, Some}
use Rattle.std.specs.Prelude.{is_some}
use Rattle.dcsp_common.proofs.EntryNumbers.{below_changed, item_changed, not_there, rising_changed}
use Rattle.abt_parts.specs.Views.{has_place}
use Rattle.abt_parts.proofs.Slots.{length_slots, place_within, slot_at, slots_put}
use Rattle.abt_parts.proofs.view.View.put_told.Goals as goal

pub invariant_of-self : goal.invariant_of-self
invariant_of-self c =
    let places = c.self.inside.places.items in
    let found = rw c.deref.ensures.value at c.in-Ok.ensures.found in
    record {
      rising = rising_changed places c.args.var c.in-Ok.place c.index_mut.result.now (Some c.args.told) c.self.invariant.rising found c.index_mut.ensures.value;
      below = below_changed places c.args.var c.in-Ok.place c.index_mut.result.now (Some c.args.told) c.self.invariant.rising found c.index_mut.ensures.value c.self.inside.agents c.self.invariant.below;
    }

pub returns-in-Ok : goal.returns-in-Ok
returns-in-Ok c =
    let places = c.self.inside.places.items in
    let agents = c.self.inside.agents in
    let found = rw c.deref.ensures.value at c.in-Ok.ensures.found in
    let size = length_slots agents places in
    let is = ap length c.self.view_is in
    let within = place_within c.args.self.now c.args.var c.requires in
    slots_put agents places _ c.args.var (Some c.args.told) (omega (arith, size, is, within))
    (item_changed places c.args.var c.in-Ok.place c.index_mut.result.now (Some c.args.told) c.self.invariant.rising found c.index_mut.ensures.value)
    ∙ ap (λ slots. set slots c.args.var (Some (Some c.args.told))) c.self.view_is

pub returns-in_default : goal.returns-in_default
returns-in_default c =
    let places = c.self.inside.places.items in
    let absent = rw c.deref.ensures.value at c.in_default.ensures.absent in
    let none : has_place c.args.self.now c.args.var ≡ false = sym (ap (λ slots. has_place slots c.args.var) c.self.view_is)
    ∙ ap is_some (slot_at c.self.inside.agents places c.args.var c.self.invariant.below ∙ not_there places c.args.var c.in_default.field-0 absent) in
    absurd (let clash = sym c.requires ∙ none in cc)
