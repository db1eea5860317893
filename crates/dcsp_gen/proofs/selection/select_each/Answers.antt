use Rattle.std.proofs.Common.{◌≡◌, ◌<◌, ℕ, ◌++◌, ◌∷◌, [], ◌*◌, List, length, ap, sym, subst, ◌∙◌, arith, Vec, Global}
use Rattle.std.specs.List.{range_with_len}
use Rattle.std.proofs.lemmas.List.{map-append}
use Rattle.abt_schedule.specs.Answers.{word_at}
use Rattle.dcsp_gen.specs.Lists.{lists_in}
use Rattle.dcsp_gen.specs.Selection.{selected, selections, words_after}
use Rattle.dcsp_gen.proofs.Selecting.{length_range, selections_more, words_more}
use Rattle.dcsp_gen.proofs.selection.select_each.Goals as goal

pub select-requires : goal.select-requires
select-requires c =
    let all = length_range 1 c.args.high in
    subst (λ (z : List ℕ). length z < 2147483648) (sym (c.deref.ensures.value ∙ c.in_ok-numbers.ensures)) (omega (arith, all, c.requires))

pub loop-done-preserved : goal.loop-done-preserved
loop-done-preserved c =
    let high = c.args.high in
    let done = c.loop-done._done in
    let start = word_at c.args.words.now in
    let kept = c.args.choosing.kept in
    let wanted = c.args.choosing.wanted in
    let among : c.deref.result.now ≡ range_with_len 1 high = c.deref.ensures.value ∙ c.in_ok-numbers.ensures in
    let numbers : length c.deref.result.now ≡ high = ap (λ (z : List ℕ). length z) among ∙ length_range 1 high in
    let list : c.in_ok-list.list.items ≡ selected kept (words_after (done * high) start) wanted (range_with_len 1 high) =
    c.in_ok-list.ensures.things ∙ ap (λ (z : List ℕ). selected kept (word_at c.loop-done.words) wanted z) among ∙ ap (λ (w : ℕ → ℕ). selected kept w wanted (range_with_len 1 high)) c.loop-done.invariant.words
    in
    record {
      lists =
          ap lists_in c.in_ok-push.ensures.items
          ∙ map-append (λ (v : Vec ℕ Global). v.items) c.loop-done.lists.items (c.in_ok-list.list ∷ [])
          ∙ ap (λ (z : List (List ℕ)). z ++ c.in_ok-list.list.items ∷ []) c.loop-done.invariant.lists
          ∙ ap (λ (z : List ℕ). selections kept start wanted high done ++ z ∷ []) list
          ∙ sym (selections_more kept start wanted high done);
      words =
          c.in_ok-list.ensures.words
          ∙ ap (λ n. words_after n (word_at c.loop-done.words)) numbers
          ∙ ap (words_after high) c.loop-done.invariant.words
          ∙ words_more done high start;
    }
