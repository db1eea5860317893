use Rattle.std.proofs.Common.{◌≡◌, ◌∙◌, ap, arith, length, set, slice_index_or, sym, None, Option, Some}
use Rattle.std.specs.Prelude.{is_some, unwrap_or}
use Rattle.dcsp_common.specs.declared.entries.Entry.{Entry}
use Rattle.dcsp_common.proofs.EntryNumbers.{below_changed, item_changed, item_there, not_there, rising_changed}
use Rattle.abt_parts.specs.declared.view.StampedValue.{StampedValue}
use Rattle.abt_parts.specs.Views.{newest, told_at}
use Rattle.abt_parts.proofs.Slots.{length_slots, place_within, slot_at, slots_put}
use Rattle.abt_parts.proofs.view.View.swap_told.Goals as goal

pub returns-in_default-clause-slot : goal.returns-in_default-clause-slot
returns-in_default-clause-slot c =
    let places = c.self.inside.places.items in
    let absent = rw c.deref.ensures.value at c.in_default.ensures.absent in
    sym (ap (λ slots. slice_index_or slots c.args.var None) (sym c.self.view_is)
    ∙ slot_at c.self.inside.agents places c.args.var c.self.invariant.below ∙ not_there places c.args.var c.in_default.field-0 absent)

pub returns-in_default-clause-swapped : goal.returns-in_default-clause-swapped
returns-in_default-clause-swapped c has =
    let none = ap is_some (returns-in_default-clause-slot c) in
    absurd (let clash = none ∙ has in cc)

pub invariant_of-self : goal.invariant_of-self
invariant_of-self c =
    let places = c.self.inside.places.items in
    let found = rw c.deref.ensures.value at c.in-Ok.ensures.found in
    record {
      rising = rising_changed places c.args.var c.in-Ok.place c.index_mut.result.now (Some c.newest.result) c.self.invariant.rising found c.index_mut.ensures.value;
      below = below_changed places c.args.var c.in-Ok.place c.index_mut.result.now (Some c.newest.result) c.self.invariant.rising found c.index_mut.ensures.value c.self.inside.agents c.self.invariant.below;
    }

pub returns-clause-slot : goal.returns-clause-slot
returns-clause-slot c =
    let places = c.self.inside.places.items in
    let found = rw c.deref.ensures.value at c.in-Ok.ensures.found in
    ap (λ (entry : Entry (Option StampedValue)). Some entry.item) c.index.ensures
    ∙ sym (item_there places c.args.var c.in-Ok.place c.index.result.now c.self.invariant.rising found.0 found.1)
    ∙ sym (slot_at c.self.inside.agents places c.args.var c.self.invariant.below)
    ∙ ap (λ slots. slice_index_or slots c.args.var None) c.self.view_is

pub returns-clause-kept : goal.returns-clause-kept
returns-clause-kept c none =
    let some = ap is_some (returns-clause-slot c) in
    absurd (let clash = some ∙ none in cc)

pub returns-clause-swapped : goal.returns-clause-swapped
returns-clause-swapped c has =
    let places = c.self.inside.places.items in
    let agents = c.self.inside.agents in
    let found = rw c.deref.ensures.value at c.in-Ok.ensures.found in
    let size = length_slots agents places in
    let is = ap length c.self.view_is in
    let within = place_within c.args.self.now c.args.var has in
    let before : c.index.result.now.item ≡ told_at c.args.self.now c.args.var = ap (λ slot. unwrap_or slot None) (returns-clause-slot c) in
    slots_put agents places _ c.args.var (Some c.newest.result) (omega (arith, size, is, within))
    (item_changed places c.args.var c.in-Ok.place c.index_mut.result.now (Some c.newest.result) c.self.invariant.rising found c.index_mut.ensures.value)
    ∙ ap (λ slots. set slots c.args.var (Some (Some c.newest.result))) c.self.view_is
    ∙ ap (λ told. set c.args.self.now c.args.var (Some (Some told))) (c.newest.ensures ∙ ap (λ was. newest was c.args.told) before)
