use Rattle.std.proofs.Common.{◌≡◌, ◌∙◌, ◌++◌, ◌∷◌, [], ap, sym, refl, true, false, length, List, Result, Ok, Err, subst, arith, ℕ, None, Some, cond}
use Rattle.std.specs.Prelude.{OnErr, OnOk, is_err}
use Rattle.std.specs.Option.{ForSome}
use Rattle.abt_defs.specs.Steps.{is_named}
use Rattle.abt_parts.specs.declared.value_places.ValuePlace.{ValuePlace}
use Rattle.abt_parts.specs.declared.recorded.Recorded.{Recorded}
use Rattle.abt_parts.specs.Stores.{lowest_value, is_against, is_ruled_out}
use Rattle.abt_parts.specs.Index.{list_of}
use Rattle.abt_parts.specs.Values.{place_for}
use Rattle.abt_parts.proofs.PlaceLaws.{with_place}
use Rattle.abt_parts.proofs.IndexLaws.{back_again, same_index, more_index}
use Rattle.abt_parts.proofs.store.Store.keep.Goals as goal

on_err : {A E P : Type 0} (r : Result A E) → is_err r ≡ true → OnErr r P → P
on_err (Ok x) e h = absurd cc
on_err (Err y) e h = h

on_ok : {A E P : Type 0} (r : Result A E) → is_err r ≡ false → OnOk r P → P
on_ok (Ok x) e h = h
on_ok (Err y) e h = absurd cc

pub invariant_of-self-then-is_err-2 : goal.invariant_of-self-then-is_err-2
invariant_of-self-then-is_err-2 c =
    let kept = on_err c.take_value.result (sym c.is_err-else-is_err.ensures.value ∙ c.if-is_err-2.true) c.take_value.ensures.err in
    same_index _ _ _ _ _ _ c.self.invariant c.reserve.ensures.items (λ v. ap (λ (z : List ValuePlace). place_for z v) kept) (λ var. refl)

pub invariant_of-self-then-is_err-3 : goal.invariant_of-self-then-is_err-3
invariant_of-self-then-is_err-3 c =
    let items = c.self.inside.items.items in
    let x : Recorded = record { nogood = c.args.nogood; step = c.args.step } in
    let takes = on_ok c.take_value.result (sym c.is_err-else-is_err.ensures.value ∙ c.if-is_err-2.false) c.take_value.ensures.ok in
    let refused = on_err c.add_name.result (sym c.is_err-2.ensures.value ∙ c.if-is_err-3.true) c.add_name.ensures.err in
    let free = subst (λ (z : List Recorded). ForSome (lowest_value c.args.nogood) (λ v. is_ruled_out v z ≡ false)) (sym c.self.view_is) c.requires in
    same_index _ _ _ _ _ _ c.self.invariant c.reserve.ensures.items
    (λ v. c.release_value.ensures.places v ∙ ap (cond (is_against v x) None) (takes v) ∙ back_again items x (place_for c.self.inside.places) c.len-place.result c.self.invariant.placed free v)
    refused

pub invariant_of-self-2 : goal.invariant_of-self-2
invariant_of-self-2 c =
    let items = c.self.inside.items.items in
    let x : Recorded = record { nogood = c.args.nogood; step = c.args.step } in
    let takes = on_ok c.take_value.result (sym c.is_err-else-is_err.ensures.value ∙ c.if-is_err-2.false) c.take_value.ensures.ok in
    let named = on_ok c.add_name.result (sym c.is_err-2.ensures.value ∙ c.if-is_err-3.false) c.add_name.ensures.ok in
    let place : c.len-place.result ≡ length items = omega arith in
    more_index items c.push_reserved.new.self.items x (place_for c.self.inside.places) (place_for c.take_value.new.places) c.self.inside.lists.items c.add_name.new.lists.items c.self.invariant
    (c.push_reserved.ensures.items ∙ ap (λ (z : List Recorded). z ++ x ∷ []) c.reserve.ensures.items)
    (subst (λ (z : List Recorded). ForSome (lowest_value c.args.nogood) (λ v. is_ruled_out v z ≡ false)) (sym c.self.view_is) c.requires)
    (λ v. takes v ∙ ap (λ (k : ℕ). cond (is_against v x) (Some k) (place_for c.self.inside.places v)) place)
    (λ var.
    named var
    ∙ ap (λ b. with_place b c.len-place.result (list_of c.self.inside.lists.items var).items) (ap (is_named var) c.pairs.ensures.pairs)
    ∙ ap (λ k. with_place (is_named var c.args.nogood) k (list_of c.self.inside.lists.items var).items) place)
