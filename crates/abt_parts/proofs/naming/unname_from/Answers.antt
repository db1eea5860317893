use Rattle.std.proofs.Common.{◌≡◌, ◌<◌, ◌-◌, ◌+◌, ◌∷◌, [], true, cond, length, take, ◌∙◌, sym, ap, arith, ℕ, List}
use Rattle.std.proofs.lemmas.List.{length-append}
use Rattle.dcsp_defs.specs.declared.nogood.Pair.{Pair}
use Rattle.dcsp_defs.specs.Pairs.{var_at}
use Rattle.abt_defs.specs.Steps.{is_named}
use Rattle.abt_parts.specs.declared.recorded.Recorded.{Recorded}
use Rattle.abt_parts.specs.Stores.{places_naming}
use Rattle.abt_parts.specs.Places.{without_last}
use Rattle.abt_parts.specs.Index.{list_of}
use Rattle.abt_parts.proofs.PlaceLaws.{names, with_place, unpushed, pushed_at}
use Rattle.abt_parts.proofs.NamingLaws.{named_at, in_use, room_before}
use Rattle.abt_parts.proofs.naming.unname_from.Goals as goal

pub unname_item-requires-clause-there : goal.unname_item-requires-clause-there
unname_item-requires-clause-there c = λ j below.
    let items = c.args.items.now in
    let k = c.loop-place.place - 1 in
    let x = c.index-items-place.result in
    let pairs_are : c.pairs.result.now ≡ x.nogood = c.pairs.ensures.pairs ∙ ap (λ (y : Recorded). y.nogood) (sym c.index-items-place.is) in
    let var = var_at c.pairs.result.now j in
    let inside : k < length items = omega (arith, c.loop-place.invariant.within, c.loop-place-test.true) in
    let next : c.loop-place.place ≡ k + 1 = omega (arith, c.loop-place-test.true) in
    let named : names var x ≡ true = ap (is_named var) (sym pairs_are) ∙ named_at c.pairs.result.now j below in
    let is = c.loop-place.invariant.named var ∙ pushed_at items k var x c.loop-place.place next inside c.index-items-place.is ∙ ap (λ b. with_place b k (places_naming (take k items) var)) named in
    in_use c.loop-place.lists.items var (omega (arith, ap length is, length-append (places_naming (take k items) var) (k ∷ [])))

pub loop-place-preserved : goal.loop-place-preserved
loop-place-preserved c =
    let items = c.args.items.now in
    let k = c.loop-place.place - 1 in
    let x = c.index-items-place.result in
    let pairs_are : c.pairs.result.now ≡ x.nogood = c.pairs.ensures.pairs ∙ ap (λ (y : Recorded). y.nogood) (sym c.index-items-place.is) in
    let old = c.loop-place.lists.items in
    let inside : k < length items = omega (arith, c.loop-place.invariant.within, c.loop-place-test.true) in
    let next : c.loop-place.place ≡ k + 1 = omega (arith, c.loop-place-test.true) in
    let pushed : (var : ℕ) → (list_of old var).items ≡ with_place (names var x) k (places_naming (take k items) var) = λ var. c.loop-place.invariant.named var ∙ pushed_at items k var x c.loop-place.place next inside c.index-items-place.is in
    let same : (var : ℕ) → is_named var c.pairs.result.now ≡ names var x = λ var. ap (λ (pairs : List Pair). is_named var pairs) pairs_are in
    record {
      from = omega (arith, c.loop-place-test.true);
      within = omega (arith, inside);
      named = λ var.
          c.unname_item.ensures.places var
          ∙ ap (λ b. cond b (without_last (list_of old var).items) (list_of old var).items) (same var)
          ∙ ap (λ (l : List ℕ). cond (names var x) (without_last l) l) (pushed var)
          ∙ unpushed (names var x) k (places_naming (take k items) var);
      room = λ var less.
          let named = ap length (c.loop-place.invariant.named var) in
          let room = room_before (names var x) k (list_of old var).capacity (list_of old var).items (places_naming (take k items) var) (places_naming items var) (pushed var)
          (λ fewer. c.loop-place.invariant.room var (omega (arith, fewer, named))) (λ t. c.unname_item.ensures.had_room var (same var ∙ t)) less in
          omega (arith, room, c.unname_item.ensures.capacity var);
    }
