use Rattle.std.proofs.Common.{◌<◌, ◌∙◌, ap, sym, arith, length, get_or, set, inl, inr}
use Rattle.std.proofs.lemmas.Bool.{cases_eq}
use Rattle.std.proofs.lemmas.List.{length-set, get_or-set_same, get_or-set_other}
use Rattle.dcsp_row.proofs.row.copy_words.Goals as goal

pub loop-block-preserved : goal.loop-block-preserved
loop-block-preserved c =
    let words = c.loop-block.words in
    let block = c.loop-block.block in
    let word = c.word_of.result in
    let size = c.loop-block.invariant.0 in
    let inside : block < length words = omega (arith, size, c.loop-block-test.true) in (
      length-set words block word ∙ size,
      λ j l. elim (cases_eq j block) [
        | inl same ↦ ap (λ n. get_or (set words block word) n 0) same ∙ get_or-set_same words block word 0 inside ∙ c.word_of.ensures ∙ ap (λ n. get_or c.args.others.now n 0) (sym same)
        | inr other ↦ get_or-set_other words block j word 0 other ∙ c.loop-block.invariant.1 j (omega (arith, l, other))
      ],
    )
