use Rattle.std.proofs.Common.{◌≡◌, ◌<◌, ℤ, length, w64, SFits, to_z, of_z, rules, List, Some, cond, get_or, ap, ◌∙◌}
use Rattle.std.specs.Ordering.{int_eq}
use Rattle.std.proofs.lemmas.List.{get_or_default}
use Rattle.std.proofs.lemmas.Int.{to_z-of_z}
use Rattle.abt_parts.specs.declared.value_places.ValuePlace.{ValuePlace}
use Rattle.abt_parts.specs.Values.{no_entry, place_for, value_at}
use Rattle.abt_parts.proofs.ValueLaws.{not_there, place_changed, place_more, rising_tried}
use Rattle.abt_parts.proofs.value_places.ValuePlaces.insert.Goals as goal

pub invariant_of-self-in-Err : goal.invariant_of-self-in-Err
invariant_of-self-in-Err c =
    let items = c.self.inside.entries.items in
    let e : ValuePlace = record { value = to_z w64 (of_z w64 c.args.value); place = c.args.place } in
    let fits = rw c.deref.ensures.value at c.in-Err.ensures.absent in
    rising_tried items _ c.in-Err.at e fits c.self.invariant _ c.insert.ensures.items

pub returns-in-Ok-clause-ok : goal.returns-in-Ok-clause-ok
returns-in-Ok-clause-ok c = λ other.
    let items = c.self.inside.entries.items in
    let in_range : SFits w64 c.args.value = search rules in
    let same : to_z w64 (of_z w64 c.args.value) ≡ c.args.value = simp to_z-of_z in
    let said = rw c.deref.ensures.value at c.in-Ok.ensures.found in
    let found : (c.in-Ok.at < length items) × (value_at items c.in-Ok.at ≡ c.args.value) = (said.0, said.1 ∙ same) in
    let read : c.index_mut.result.now ≡ get_or items c.in-Ok.at no_entry = c.index_mut.ensures.value ∙ get_or_default items c.in-Ok.at c.index_mut.result.now no_entry found.0 in
    place_changed items c.args.value c.in-Ok.at c.args.place c.index_mut.result.now c.self.invariant found read other
    ∙ ap (λ (z : List ValuePlace). cond (int_eq c.args.value other) (Some c.args.place) (place_for z other)) c.self.view_is

pub returns-in_ok-insert-in-Err-clause-ok : goal.returns-in_ok-insert-in-Err-clause-ok
returns-in_ok-insert-in-Err-clause-ok c = λ other.
    let items = c.self.inside.entries.items in
    let in_range : SFits w64 c.args.value = search rules in
    let same : to_z w64 (of_z w64 c.args.value) ≡ c.args.value = simp to_z-of_z in
    let e : ValuePlace = record { value = to_z w64 (of_z w64 c.args.value); place = c.args.place } in
    let fits = rw c.deref.ensures.value at c.in-Err.ensures.absent in
    ap (λ (z : List ValuePlace). place_for z other) c.in_ok-insert-in-Err.ensures.items
    ∙ place_more items c.in-Err.at e (not_there items e.value c.in-Err.at fits) other
    ∙ ap (λ (v : ℤ). cond (int_eq v other) (Some c.args.place) (place_for items other)) same
    ∙ ap (λ (z : List ValuePlace). cond (int_eq c.args.value other) (Some c.args.place) (place_for z other)) c.self.view_is
