use Rattle.std.proofs.Common.{◌≡◌, ◌<◌, ◌≤◌, length, ◌∙◌, ap, subst, arith}
use Rattle.std.proofs.lemmas.List.{get_or_default, length-set}
use Rattle.dcsp_defs.specs.Pairs.{var_at}
use Rattle.abt_parts.specs.Places.{Places, no_places, without_last}
use Rattle.abt_parts.specs.Index.{list_of}
use Rattle.abt_parts.proofs.NamingLaws.{changed_at, had_more}
use Rattle.abt_parts.proofs.naming.unname_item.Goals as goal

pub index_mut-requires : goal.index_mut-requires
index_mut-requires c = let there = c.requires.there c.loop-pair.pair-index c.loop-pair-test.true in omega (arith, there, c.loop-pair.invariant.count)

pub loop-pair-preserved : goal.loop-pair-preserved
loop-pair-preserved c =
    let lists = c.loop-pair.lists.items in
    let old = c.args.lists.now.items in
    let pairs = c.args.pairs.now in
    let k = c.loop-pair.pair-index in
    let at = var_at pairs k in
    let there : at < length lists = omega (arith, c.requires.there k c.loop-pair-test.true, c.loop-pair.invariant.count) in
    let is : c.index_mut.result.now ≡ list_of lists at = c.index_mut.ensures.value ∙ get_or_default lists at _ no_places there in
    let has : length (list_of lists at).items ≤ (list_of lists at).capacity = subst (λ (l : Places). length l.items ≤ l.capacity) is c.drop_last.ensures.had_room in
    let changed = changed_at without_last lists old pairs k c.drop_last.new.self c.requires.rising c.loop-pair-test.true there
    (c.drop_last.ensures.items ∙ ap (λ (l : Places). without_last l.items) is)
    (c.drop_last.ensures.capacity ∙ ap (λ (l : Places). l.capacity) is)
    c.loop-pair.invariant.places c.loop-pair.invariant.capacity in
    record {
      places = changed.0;
      capacity = changed.1;
      count = length-set lists at c.drop_last.new.self ∙ c.loop-pair.invariant.count;
      had_room = had_more without_last lists old pairs k c.requires.rising c.loop-pair-test.true has c.loop-pair.invariant.places c.loop-pair.invariant.capacity c.loop-pair.invariant.had_room;
    }
