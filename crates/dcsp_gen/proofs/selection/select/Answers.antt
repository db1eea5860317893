use Rattle.std.proofs.Common.{◌≡◌, ◌++◌, ◌∷◌, ◌+◌, suc, List, drop, length, ap, sym, ◌∙◌, arith, add-one, drop-cons, length-drop}
use Rattle.abt_schedule.specs.Answers.{word_at}
use Rattle.dcsp_gen.specs.Selection.{chooses, selected, words_after}
use Rattle.dcsp_gen.proofs.Selecting.{one_selected, one_word_less}
use Rattle.dcsp_gen.proofs.selection.select.Goals as goal

pub loop-place-preserved : goal.loop-place-preserved
loop-place-preserved g c =
    let things : List g.row.T.Denot = c.args.things.now in
    let place = c.loop-place.place in
    let x : g.row.T.Denot = c.index-things-place.result in
    let rest : List g.row.T.Denot = drop (suc place) things in
    let here : drop place things ≡ x ∷ rest = drop-cons things place x c.loop-place-test.true ∙ ap (λ y. y ∷ rest) (sym c.index-things-place.is) in
    let next : drop (place + 1) things ≡ rest = ap (λ n. drop n things) (add-one place) in
    let left = length-drop (suc place) things in
    record {
      items =
          ap (λ (z : List g.row.T.Denot). c.push_if.new.list.items ++ selected c.args.choosing.kept (word_at c.next_word.new.self) c.wanted_after-still.result z) next
          ∙ one_selected c.args.choosing.kept c.loop-place.words c.next_word.new.self c.next_word.result c.loop-place.still x rest c.chooses-chosen.result c.wanted_after-still.result c.loop-place.list.items c.push_if.new.list.items
          c.next_word.ensures
          (c.chooses-chosen.ensures ∙ ap (chooses c.next_word.result c.loop-place.still) (omega (arith, left, c.loop-place-test.true)))
          c.wanted_after-still.ensures
          c.in_ok-push_if.ensures
          ∙ ap (λ (z : List g.row.T.Denot). c.loop-place.list.items ++ selected c.args.choosing.kept (word_at c.loop-place.words) c.loop-place.still z) (sym here)
          ∙ c.loop-place.invariant.items;
      words =
          ap (λ (z : List g.row.T.Denot). words_after (length z) (word_at c.next_word.new.self)) next
          ∙ one_word_less (length rest) c.loop-place.words c.next_word.new.self c.next_word.result c.next_word.ensures
          ∙ ap (λ (z : List g.row.T.Denot). words_after (length z) (word_at c.loop-place.words)) (sym here)
          ∙ c.loop-place.invariant.words;
    }
