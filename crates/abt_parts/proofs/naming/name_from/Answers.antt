use Rattle.std.proofs.Common.{◌≡◌, ◌<◌, true, ◌+◌, ◌++◌, ◌∷◌, [], length, take, ◌∙◌, sym, ap, rules, arith, List}
use Rattle.std.proofs.lemmas.List.{take_more}
use Rattle.dcsp_defs.specs.declared.nogood.Pair.{Pair}
use Rattle.dcsp_defs.specs.Pairs.{var_at}
use Rattle.abt_defs.specs.Steps.{is_named}
use Rattle.abt_parts.specs.declared.recorded.Recorded.{Recorded}
use Rattle.abt_parts.specs.Stores.{places_naming}
use Rattle.abt_parts.specs.Index.{list_of}
use Rattle.abt_parts.proofs.PlaceLaws.{names, with_place, places_push, grows}
use Rattle.abt_parts.proofs.NamingLaws.{named_at, fewer_places}
use Rattle.abt_parts.proofs.naming.name_from.Goals as goal

pub name_item-requires-clause-room : goal.name_item-requires-clause-room
name_item-requires-clause-room c = λ j below.
    let items = c.args.items.now in
    let k = c.loop-place.place in
    let x = c.index-items-place.result in
    let pairs_are : c.pairs.result.now ≡ x.nogood = c.pairs.ensures.pairs ∙ ap (λ (y : Recorded). y.nogood) (sym c.index-items-place.is) in
    let var = var_at c.pairs.result.now j in
    let named : names var x ≡ true = ap (is_named var) (sym pairs_are) ∙ named_at c.pairs.result.now j below in
    let fewer = fewer_places items k var x c.loop-place-test.true c.index-items-place.is named in
    let there = ap length (c.loop-place.invariant.named var) in
    let some : length (places_naming (take c.args.first items) var) < length (places_naming items var) = omega (arith, c.loop-place.invariant.least var, there, fewer) in
    omega (arith, c.requires.room var some, c.loop-place.invariant.capacity var, there, fewer)

pub loop-place-preserved : goal.loop-place-preserved
loop-place-preserved c =
    let items = c.args.items.now in
    let k = c.loop-place.place in
    let x = c.index-items-place.result in
    let pairs_are : c.pairs.result.now ≡ x.nogood = c.pairs.ensures.pairs ∙ ap (λ (y : Recorded). y.nogood) (sym c.index-items-place.is) in
    let more : take k items ++ x ∷ [] ≡ take (k + 1) items = ap (λ (y : Recorded). take k items ++ y ∷ []) c.index-items-place.is ∙ sym (take_more items k x c.loop-place-test.true) in
    let size : k ≡ length (take k items) = search rules in
    record {
      named = λ var.
          c.name_item.ensures.places var
          ∙ ap (λ (pairs : List Pair). with_place (is_named var pairs) k (list_of c.loop-place.lists.items var).items) pairs_are
          ∙ ap (with_place (names var x) k) (c.loop-place.invariant.named var)
          ∙ sym (places_push (take k items) x var k size)
          ∙ ap (λ z. places_naming z var) more;
      capacity = λ var. c.name_item.ensures.capacity var ∙ c.loop-place.invariant.capacity var;
      least = λ var.
          let all = ap length (c.name_item.ensures.places var) in
          omega (arith, c.loop-place.invariant.least var, all, grows (is_named var c.pairs.result.now) k (list_of c.loop-place.lists.items var).items);
    }
