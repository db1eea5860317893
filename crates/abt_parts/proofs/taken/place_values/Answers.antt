use Rattle.std.proofs.Common.{◌≡◌, ◌∙◌, ap, get_or, take_all}
use Rattle.std.proofs.lemmas.List.{get_or_default}
use Rattle.std.specs.Prelude.{is_some}
use Rattle.abt_parts.specs.Stores.{is_against, is_ruled_out, place_against}
use Rattle.abt_parts.specs.Values.{place_for}
use Rattle.abt_parts.proofs.PlacedLaws.{place_put, placed_all, same_some}
use Rattle.abt_parts.proofs.taken.place_values.Goals as goal

pub loop-place-preserved : goal.loop-place-preserved
loop-place-preserved c =
    let items = c.args.items.now in
    let k = c.loop-place.place in
    let x = get_or items k c.index-items-place.result in
    let is : x ≡ get_or items k x = get_or_default items k c.index-items-place.result x c.loop-place-test.true in
    let old = place_for c.loop-place.places in (
      λ v. ap is_some (c.place_value.ensures v) ∙ same_some (is_against v x) (old v) k ∙ c.loop-place.invariant.0 v,
      λ v now. c.place_value.ensures v ∙ place_put (is_against v) items k x c.loop-place-test.true is (c.requires.once v) (old v) (c.loop-place.invariant.0 v) (c.loop-place.invariant.1 v) now,
    )

pub returns : goal.returns
returns c = λ v.
    let items = c.args.items.now in
    let all = take_all c.loop-place.place items c.loop-place-test.false in
    placed_all (is_against v) items (place_for c.loop-place.places v) (c.loop-place.invariant.0 v) (λ t. c.loop-place.invariant.1 v (ap (is_ruled_out v) all ∙ t) ∙ ap (place_against v) all)
