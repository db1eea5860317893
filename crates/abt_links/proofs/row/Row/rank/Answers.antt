use Rattle.std.proofs.Common.{◌≡◌, ◌<◌, ◌*◌, ◌/◌, ◌%◌, ◌^◌, ◌∙◌, ap, arith, get_or, refl, length, ℕ, List, sym, ◌+◌}
use Rattle.std.proofs.lemmas.List.{get_or_read}
use Rattle.std.specs.Int.Count.{ones}
use Rattle.abt_links.specs.Marks.{is_set, rank}
use Rattle.abt_links.proofs.Ranks.{bits_of}
use Rattle.abt_links.proofs.Rows.{words_more, last_word, few_ones, rank_le}
use Rattle.abt_links.proofs.row.Row.rank.Goals as goal

pub loop-place-preserved : goal.loop-place-preserved
loop-place-preserved c =
    let inside : c.loop-place.place < length c.self.inside.words.items = omega (arith, ap length c.self.view_is) in
    let read : c.index-word.result.now ≡ get_or c.self.inside.words.items c.loop-place.place 0 = get_or_read c.self.inside.words.items c.loop-place.place c.index-word.result.now inside c.index-word.ensures 0 in
    let fits : get_or c.self.inside.words.items c.loop-place.place 0 < 2 ^ 64 = omega (arith, read) in
    ap (λ w. c.loop-place.before + ones w) read
    ∙ words_more c.self.inside.words.items c.loop-place.place c.loop-place.before 64 refl fits c.loop-place.invariant

pub overflow_add-before : goal.overflow_add-before
overflow_add-before c =
    let fits : c.index-word.result.now < 2 ^ 64 = omega arith in
    omega (arith, c.loop-place.invariant, rank_le (is_set c.self.inside.words.items) (64 * c.loop-place.place), few_ones c.index-word.result.now 64 refl fits)

pub overflow_add-result : goal.overflow_add-result
overflow_add-result c =
    omega (arith, c.loop-place.invariant, rank_le (is_set c.self.inside.words.items) (64 * c.loop-place.place), c.ones_below.ensures, rank_le (bits_of c.index.result.now) (c.args.number % 64))

pub returns : goal.returns
returns c =
    let last : c.args.number / 64 ≡ c.loop-place.place = omega arith in
    let inside : c.args.number / 64 < length c.self.inside.words.items = omega (arith, ap length c.self.view_is) in
    let read : c.index.result.now ≡ get_or c.self.inside.words.items (c.args.number / 64) 0 = get_or_read c.self.inside.words.items (c.args.number / 64) c.index.result.now inside c.index.ensures 0 in
    ap (λ n. c.loop-place.before + n) (c.ones_below.ensures ∙ ap (λ w. rank (bits_of w) (c.args.number % 64)) read)
    ∙ last_word c.self.inside.words.items c.args.number c.loop-place.before (c.args.number / 64) refl (c.loop-place.invariant ∙ ap (λ n. rank (is_set c.self.inside.words.items) (64 * n)) (sym last))
    ∙ ap (λ (l : List ℕ). rank (is_set l) c.args.number) c.self.view_is
