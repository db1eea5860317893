use Rattle.std.proofs.Common.{◌≡◌, ◌<◌, length, ◌∙◌, sym, ap, subst, ◌++◌, ◌∷◌, []}
use Rattle.dcsp_defs.specs.Pairs.{var_at}
use Rattle.abt_parts.specs.Places.{Places, no_places}
use Rattle.abt_parts.specs.Index.{list_of}
use Rattle.std.proofs.lemmas.List.{get_or_default}
use Rattle.abt_parts.proofs.NamingLaws.{in_range, room_at, changed_at}
use Rattle.abt_parts.proofs.naming.name_item.Goals as goal

pub push_reserved-requires : goal.push_reserved-requires
push_reserved-requires c =
    let lists = c.loop-pair.lists.items in
    let at = var_at c.args.pairs.now c.loop-pair.pair-index in
    let room = room_at lists c.args.lists.now.items c.args.pairs.now c.loop-pair.pair-index c.args.place c.requires.rising c.loop-pair-test.true (c.requires.room c.loop-pair.pair-index c.loop-pair-test.true) c.loop-pair.invariant.0 c.loop-pair.invariant.1 in
    let there = in_range lists at room in
    let is : c.index_mut.result.now ≡ list_of lists at = c.index_mut.ensures.value ∙ get_or_default lists at _ no_places there in
    subst (λ (l : Places). length l.items < l.capacity) (sym is) room

pub loop-pair-preserved : goal.loop-pair-preserved
loop-pair-preserved c =
    let lists = c.loop-pair.lists.items in
    let at = var_at c.args.pairs.now c.loop-pair.pair-index in
    let room = room_at lists c.args.lists.now.items c.args.pairs.now c.loop-pair.pair-index c.args.place c.requires.rising c.loop-pair-test.true (c.requires.room c.loop-pair.pair-index c.loop-pair-test.true) c.loop-pair.invariant.0 c.loop-pair.invariant.1 in
    let there = in_range lists at room in
    let is : c.index_mut.result.now ≡ list_of lists at = c.index_mut.ensures.value ∙ get_or_default lists at _ no_places there in
    changed_at (λ l. l ++ c.args.place ∷ []) lists c.args.lists.now.items c.args.pairs.now c.loop-pair.pair-index c.push_reserved.new.self c.requires.rising c.loop-pair-test.true there
    (c.push_reserved.ensures.items ∙ ap (λ (l : Places). l.items ++ c.args.place ∷ []) is)
    (c.push_reserved.ensures.capacity ∙ ap (λ (l : Places). l.capacity) is)
    c.loop-pair.invariant.0 c.loop-pair.invariant.1
