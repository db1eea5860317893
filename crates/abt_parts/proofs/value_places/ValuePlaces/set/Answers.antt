use Rattle.std.proofs.Common.{◌≡◌, ◌<◌, length, subst, w64, SFits, to_z, of_z, rules, List, Some, cond, ◌&&◌, get_or, ap, sym, ◌∙◌}
use Rattle.std.specs.Prelude.{is_some}
use Rattle.std.specs.Ordering.{int_eq}
use Rattle.std.proofs.lemmas.List.{get_or_default}
use Rattle.std.proofs.lemmas.Int.{to_z-of_z}
use Rattle.abt_parts.specs.declared.value_places.ValuePlace.{ValuePlace}
use Rattle.abt_parts.specs.Values.{no_entry, place_for, value_at, BelongsAt}
use Rattle.abt_parts.proofs.ValueLaws.{none_set, not_there, only_there, place_changed, place_there}
use Rattle.abt_parts.proofs.value_places.ValuePlaces.set.Goals as goal

pub returns-in-Ok : goal.returns-in-Ok
returns-in-Ok c = λ other.
    let items = c.self.inside.entries.items in
    let in_range : SFits w64 c.args.value = search rules in
    let same : to_z w64 (of_z w64 c.args.value) ≡ c.args.value = simp to_z-of_z in
    let said = rw c.deref.ensures.value at c.in-Ok.ensures.found in
    let found : (c.in-Ok.at < length items) × (value_at items c.in-Ok.at ≡ c.args.value) = (said.0, said.1 ∙ same) in
    let read : c.index_mut.result.now ≡ get_or items c.in-Ok.at no_entry = c.index_mut.ensures.value ∙ get_or_default items c.in-Ok.at c.index_mut.result.now no_entry found.0 in
    place_changed items c.args.value c.in-Ok.at c.args.place c.index_mut.result.now c.self.invariant found read other
    ∙ only_there items c.args.value c.args.place _ (place_there items c.args.value c.in-Ok.at c.self.invariant found.0 found.1) other
    ∙ ap (λ (z : List ValuePlace). cond (int_eq c.args.value other && is_some (place_for z other)) (Some c.args.place) (place_for z other)) c.self.view_is

pub returns-in_default : goal.returns-in_default
returns-in_default c = λ other.
    let items = c.self.inside.entries.items in
    let in_range : SFits w64 c.args.value = search rules in
    let same : to_z w64 (of_z w64 c.args.value) ≡ c.args.value = simp to_z-of_z in
    let said = rw c.deref.ensures.value at c.in_default.ensures.absent in
    let fits : BelongsAt items c.args.value c.in_default.field-0 = subst (λ v. BelongsAt items v c.in_default.field-0) same said in
    ap (λ (z : List ValuePlace). place_for z other) (sym c.self.view_is)
    ∙ none_set items c.args.value c.args.place (not_there items c.args.value c.in_default.field-0 fits) other
    ∙ ap (λ (z : List ValuePlace). cond (int_eq c.args.value other && is_some (place_for z other)) (Some c.args.place) (place_for z other)) c.self.view_is
