use Rattle.std.proofs.Common.{◌≡◌, ◌<◌, length, rules, subst, w64, SFits, to_z, of_z}
use Rattle.std.specs.Prelude.{IfOk, IfErr}
use Rattle.std.proofs.lemmas.Int.{to_z-of_z}
use Rattle.std.proofs.lemmas.List.Sorted.{answers_always}
use Rattle.abt_parts.specs.declared.value_places.ValuePlace.{ValuePlace}
use Rattle.abt_parts.specs.Values.{value_at, BelongsAt}
use Rattle.abt_parts.proofs.ValueLaws.{found, belongs}
use Rattle.abt_parts.proofs.value_places.entry_of.Goals as goal

pub returns-clause-found : goal.returns-clause-found
returns-clause-found c =
    let in_range : SFits w64 c.args.value = search rules in
    let same : to_z w64 (of_z w64 c.args.value) ≡ c.args.value = simp to_z-of_z in
    let facts = c.binary_search_by_key.ensures in
    let entries = c.args.entries.now in
    subst (λ v. IfOk c.binary_search_by_key.result (λ at. (at < length entries) × (value_at entries at ≡ v))) same (found entries c.requires (to_z w64 (of_z w64 c.args.value)) _ facts.bound (facts.position (λ (x : ValuePlace). x.value) (answers_always _ _ _ (λ f a r g called. search rules))))

pub returns-clause-absent : goal.returns-clause-absent
returns-clause-absent c =
    let in_range : SFits w64 c.args.value = search rules in
    let same : to_z w64 (of_z w64 c.args.value) ≡ c.args.value = simp to_z-of_z in
    let facts = c.binary_search_by_key.ensures in
    let entries = c.args.entries.now in
    subst (λ v. IfErr c.binary_search_by_key.result (BelongsAt entries v)) same (belongs entries c.requires (to_z w64 (of_z w64 c.args.value)) _ facts.bound (facts.position (λ (x : ValuePlace). x.value) (answers_always _ _ _ (λ f a r g called. search rules))))
