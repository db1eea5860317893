use Rattle.std.proofs.Common.{◌≡◌, ◌≤◌, take, ◌∙◌, ap, sym, rules, arith, filter, length, subst, List}
use Rattle.std.specs.Prelude.{is_some}
use Rattle.std.specs.List.{list_all}
use Rattle.std.proofs.lemmas.Fn.{filter_same}
use Rattle.abt_parts.specs.declared.recorded.Recorded.{Recorded}
use Rattle.abt_parts.specs.Stores.{fits, is_against, is_ruled_out, place_against, places_naming, IsOncePerValue}
use Rattle.abt_parts.proofs.IndexLaws.{fewer_once, kept_first, kept_within, kept_room}
use Rattle.abt_parts.specs.Index.{HaveRoomFrom}
use Rattle.abt_parts.proofs.PlacedLaws.{some_place, some_before, place_before}
use Rattle.abt_parts.proofs.store.Store.forget_from.Goals as goal

pub release_values-requires-clause-once : goal.release_values-requires-clause-once
release_values-requires-clause-once c = subst IsOncePerValue (sym c.deref-2.ensures.value) c.self.invariant.once

pub release_values-requires-clause-taken : goal.release_values-requires-clause-taken
release_values-requires-clause-taken c = λ v.
    ap is_some (c.self.invariant.placed v) ∙ some_place (is_against v) 0 c.self.inside.items.items ∙ ap (is_ruled_out v) (sym c.deref-2.ensures.value)

pub release_values-requires-clause-within : goal.release_values-requires-clause-within
release_values-requires-clause-within c = omega (arith, c.requires.within, ap length c.self.view_is, ap length c.deref-2.ensures.value)

pub release_values-requires-clause-before : goal.release_values-requires-clause-before
release_values-requires-clause-before c =
    let test = fits c.args.known.var c.args.known.value in
    ap (λ (z : List Recorded). list_all test (take c.args.first z)) (c.deref-2.ensures.value ∙ c.self.view_is) ∙ c.requires.before

pub place_values-requires-clause-once : goal.place_values-requires-clause-once
place_values-requires-clause-once c =
    let items = c.self.inside.items.items in
    let test = fits c.args.known.var c.args.known.value in
    let kept : c.retain.new.self.items ≡ filter test items = filter_same _ _ _ (λ x b f' k. search rules) _ _ c.retain.ensures.filtered in
    subst IsOncePerValue (sym (c.deref-3.ensures.value ∙ kept)) (fewer_once items test c.self.invariant.once)

pub place_values-requires-clause-taken : goal.place_values-requires-clause-taken
place_values-requires-clause-taken c = λ v.
    let items = c.self.inside.items.items in
    let test = fits c.args.known.var c.args.known.value in
    let kept : c.retain.new.self.items ≡ filter test items = filter_same _ _ _ (λ x b f' k. search rules) _ _ c.retain.ensures.filtered in
    c.release_values.ensures.taken v
    ∙ ap (λ (z : List Recorded). is_ruled_out v (filter (fits c.args.known.var c.args.known.value) z)) c.deref-2.ensures.value
    ∙ ap (is_ruled_out v) (sym (c.deref-3.ensures.value ∙ kept))

pub place_values-requires-clause-within : goal.place_values-requires-clause-within
place_values-requires-clause-within c =
    let items = c.self.inside.items.items in
    let test = fits c.args.known.var c.args.known.value in
    let first = c.args.first in
    let kept : c.retain.new.self.items ≡ filter test items = filter_same _ _ _ (λ x b f' k. search rules) _ _ c.retain.ensures.filtered in
    let left = c.deref-3.ensures.value ∙ kept in
    let inside : first ≤ length items = omega (arith, c.requires.within, ap length c.self.view_is) in
    let all = ap (λ (z : List Recorded). list_all test (take first z)) c.self.view_is ∙ c.requires.before in
    omega (arith, kept_within items test first inside all, ap length left)

pub place_values-requires-clause-before : goal.place_values-requires-clause-before
place_values-requires-clause-before c = λ v there.
    let items = c.self.inside.items.items in
    let test = fits c.args.known.var c.args.known.value in
    let first = c.args.first in
    let kept : c.retain.new.self.items ≡ filter test items = filter_same _ _ _ (λ x b f' k. search rules) _ _ c.retain.ensures.filtered in
    let left = c.deref-3.ensures.value ∙ kept in
    let inside : first ≤ length items = omega (arith, c.requires.within, ap length c.self.view_is) in
    let all = ap (λ (z : List Recorded). list_all test (take first z)) c.self.view_is ∙ c.requires.before in
    let prefix = ap (take first) left ∙ kept_first items test first inside all in
    let ruled = sym (ap (is_ruled_out v) prefix) ∙ there in
    let some = place_values-requires-clause-taken c v ∙ some_before (is_against v) _ first there in
    c.release_values.ensures.kept v some ∙ c.self.invariant.placed v ∙ place_before (is_against v) items first ruled ∙ sym (ap (place_against v) prefix)

pub name_from-requires-clause-within : goal.name_from-requires-clause-within
name_from-requires-clause-within c =
    let items = c.self.inside.items.items in
    let test = fits c.args.known.var c.args.known.value in
    let first = c.args.first in
    let kept : c.retain.new.self.items ≡ filter test items = filter_same _ _ _ (λ x b f' k. search rules) _ _ c.retain.ensures.filtered in
    let left = c.deref-4.ensures.value ∙ kept in
    let inside : first ≤ length items = omega (arith, c.requires.within, ap length c.self.view_is) in
    let all = ap (λ (z : List Recorded). list_all test (take first z)) c.self.view_is ∙ c.requires.before in
    omega (arith, kept_within items test first inside all, ap length left)

pub name_from-requires-clause-named : goal.name_from-requires-clause-named
name_from-requires-clause-named c = λ var.
    let items = c.self.inside.items.items in
    let test = fits c.args.known.var c.args.known.value in
    let first = c.args.first in
    let kept : c.retain.new.self.items ≡ filter test items = filter_same _ _ _ (λ x b f' k. search rules) _ _ c.retain.ensures.filtered in
    let left = c.deref-4.ensures.value ∙ kept in
    let inside : first ≤ length items = omega (arith, c.requires.within, ap length c.self.view_is) in
    let all = ap (λ (z : List Recorded). list_all test (take first z)) c.self.view_is ∙ c.requires.before in
    c.unname_from.ensures.named var
    ∙ ap (λ (z : List Recorded). places_naming (take first z) var) c.deref.ensures.value
    ∙ sym (ap (λ (z : List Recorded). places_naming z var) (ap (take first) left ∙ kept_first items test first inside all))

pub name_from-requires-clause-room : goal.name_from-requires-clause-room
name_from-requires-clause-room c =
    let items = c.self.inside.items.items in
    let test = fits c.args.known.var c.args.known.value in
    let first = c.args.first in
    let kept : c.retain.new.self.items ≡ filter test items = filter_same _ _ _ (λ x b f' k. search rules) _ _ c.retain.ensures.filtered in
    let left = c.deref-4.ensures.value ∙ kept in
    let inside : first ≤ length items = omega (arith, c.requires.within, ap length c.self.view_is) in
    let all = ap (λ (z : List Recorded). list_all test (take first z)) c.self.view_is ∙ c.requires.before in
    let lists = c.unname_from.new.lists.items in
    subst (λ (z : List Recorded). HaveRoomFrom first z lists) (sym left) (kept_room items test first inside all lists (subst (λ (z : List Recorded). HaveRoomFrom first z lists) c.deref.ensures.value c.unname_from.ensures.room))

pub invariant_of-self : goal.invariant_of-self
invariant_of-self c =
    let items = c.self.inside.items.items in
    let test = fits c.args.known.var c.args.known.value in
    let kept : c.retain.new.self.items ≡ filter test items = filter_same _ _ _ (λ x b f' k. search rules) _ _ c.retain.ensures.filtered in
    record {
      once = subst IsOncePerValue (sym kept) (fewer_once items test c.self.invariant.once);
      placed = λ v. c.place_values.ensures v ∙ ap (place_against v) c.deref-3.ensures.value;
      named = λ var. c.name_from.ensures var ∙ ap (λ (z : List Recorded). places_naming z var) c.deref-4.ensures.value;
    }

pub returns : goal.returns
returns c =
    let test = fits c.args.known.var c.args.known.value in
    let kept : c.retain.new.self.items ≡ filter test c.self.inside.items.items = filter_same _ _ _ (λ x b f' k. search rules) _ _ c.retain.ensures.filtered in
    kept ∙ ap (filter test) c.self.view_is
