use Rattle.std.proofs.Common.{◌≡◌, ◌++◌, ◌∷◌, [], true, false, not, cond, take, ◌∙◌, ap, arith, ℕ, List}
use Rattle.std.specs.Prelude.{is_ok}
use Rattle.std.proofs.lemmas.List.{get_or_default, length-set}
use Rattle.dcsp_defs.specs.Pairs.{var_at}
use Rattle.abt_defs.specs.Steps.{is_named}
use Rattle.abt_parts.specs.Places.{Places, no_places, without_last}
use Rattle.abt_parts.specs.Index.{list_of}
use Rattle.abt_parts.proofs.PlaceLaws.{unpushed}
use Rattle.abt_parts.proofs.NamingLaws.{items_at, items_stay, var_early, early_rise, last_greatest}
use Rattle.abt_parts.proofs.naming.add_name.Goals as goal

pub loop-at-init : goal.loop-at-init
loop-at-init c = record {
  places = c.add_lists.ensures.places;
  there = λ j below. let most = last_greatest c.args.pairs.now c.in-Some.last.now c.requires c.in-Some.ensures.item.1 j below in omega (arith, most, c.in_ok-add_lists.ensures.count);
}

pub unname_item-requires-clause-rising : goal.unname_item-requires-clause-rising
unname_item-requires-clause-rising c = early_rise c.args.pairs.now c.loop-at.at c.requires

pub unname_item-requires-clause-there : goal.unname_item-requires-clause-there
unname_item-requires-clause-there c = λ j below.
    let early = var_early c.args.pairs.now c.loop-at.at j below in
    let there = c.loop-at.invariant.there j early.0 in
    let size = length-set c.loop-at.lists.items (var_at c.args.pairs.now c.loop-at.at) c.push.new.self in
    omega (arith, there, early.1, size)

pub returns-then-is_err-clause-err : goal.returns-then-is_err-clause-err
returns-then-is_err-clause-err c = λ var.
    let lists = c.loop-at.lists.items in
    let k = c.loop-at.at in
    let early = take k c.args.pairs.now in
    let at = var_at c.args.pairs.now k in
    let there = c.loop-at.invariant.there k c.loop-at-test.true in
    let is : c.index_mut.result.now ≡ list_of lists at = c.index_mut.ensures.value ∙ get_or_default lists at _ no_places there in
    let refused : is_ok c.push.result ≡ false = c.is_err.ensures.negation ∙ ap not c.if-is_err.true in
    let stays = c.push.ensures ∙ ap (λ b. cond b (c.index_mut.result.now.items ++ c.args.place ∷ []) c.index_mut.result.now.items) refused ∙ ap (λ (l : Places). l.items) is in
    c.unname_item.ensures.places var
    ∙ ap (λ (l : List ℕ). cond (is_named var early) (without_last l) l) (items_stay lists at c.push.new.self there stays var ∙ c.loop-at.invariant.places var)
    ∙ unpushed (is_named var early) c.args.place (list_of c.args.lists.now.items var).items

pub loop-at-preserved : goal.loop-at-preserved
loop-at-preserved c =
    let lists = c.loop-at.lists.items in
    let pairs = c.args.pairs.now in
    let k = c.loop-at.at in
    let at = var_at pairs k in
    let there = c.loop-at.invariant.there k c.loop-at-test.true in
    let is : c.index_mut.result.now ≡ list_of lists at = c.index_mut.ensures.value ∙ get_or_default lists at _ no_places there in
    let added : is_ok c.push.result ≡ true = c.is_err.ensures.negation ∙ ap not c.if-is_err.false in
    record {
      places = items_at (λ l. l ++ c.args.place ∷ []) lists c.args.lists.now.items pairs k c.push.new.self c.requires c.loop-at-test.true there
          (c.push.ensures ∙ ap (λ b. cond b (c.index_mut.result.now.items ++ c.args.place ∷ []) c.index_mut.result.now.items) added ∙ ap (λ (l : Places). l.items ++ c.args.place ∷ []) is)
          c.loop-at.invariant.places;
      there = λ j below. let inside = c.loop-at.invariant.there j below in omega (arith, inside, length-set lists at c.push.new.self);
    }
