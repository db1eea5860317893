use Rattle.std.proofs.Common.{◌≡◌, ◌<◌, length, subst, w64, SFits, to_z, of_z, rules, List, Some, get_or, ap, sym, ◌∙◌}
use Rattle.std.proofs.lemmas.List.{get_or_default}
use Rattle.std.proofs.lemmas.Int.{to_z-of_z}
use Rattle.abt_parts.specs.declared.value_places.ValuePlace.{ValuePlace}
use Rattle.abt_parts.specs.Values.{no_entry, place_for, value_at, BelongsAt}
use Rattle.abt_parts.proofs.ValueLaws.{place_there, not_there}
use Rattle.abt_parts.proofs.value_places.ValuePlaces.get.Goals as goal

pub returns-in-Ok : goal.returns-in-Ok
returns-in-Ok c =
    let items = c.self.inside.entries.items in
    let in_range : SFits w64 c.args.value = search rules in
    let same : to_z w64 (of_z w64 c.args.value) ≡ c.args.value = simp to_z-of_z in
    let said = rw c.deref.ensures.value at c.in-Ok.ensures.found in
    let found : (c.in-Ok.at < length items) × (value_at items c.in-Ok.at ≡ c.args.value) = (said.0, said.1 ∙ same) in
    let read : c.index.result.now ≡ get_or items c.in-Ok.at no_entry = c.index.ensures ∙ get_or_default items c.in-Ok.at c.index.result.now no_entry found.0 in
    ap (λ (x : ValuePlace). Some x.place) read
    ∙ sym (ap (λ (z : List ValuePlace). place_for z c.args.value) (sym c.self.view_is) ∙ place_there items c.args.value c.in-Ok.at c.self.invariant found.0 found.1)

pub returns-in-Err : goal.returns-in-Err
returns-in-Err c =
    let items = c.self.inside.entries.items in
    let in_range : SFits w64 c.args.value = search rules in
    let same : to_z w64 (of_z w64 c.args.value) ≡ c.args.value = simp to_z-of_z in
    let said = rw c.deref.ensures.value at c.in-Err.ensures.absent in
    let fits : BelongsAt items c.args.value c.in-Err.field-0 = subst (λ v. BelongsAt items v c.in-Err.field-0) same said in
    sym (ap (λ (z : List ValuePlace). place_for z c.args.value) (sym c.self.view_is) ∙ not_there items c.args.value c.in-Err.field-0 fits)
