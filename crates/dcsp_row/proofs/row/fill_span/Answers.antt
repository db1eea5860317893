use Rattle.std.proofs.Common.{◌<◌, ◌∙◌, arith, length}
use Rattle.std.proofs.lemmas.List.{length-set}
use Rattle.dcsp_row.specs.Spans.{is_within}
use Rattle.dcsp_row.proofs.WordLaws.{block_more}
use Rattle.dcsp_row.proofs.row.fill_span.Goals as goal

pub loop-block-preserved : goal.loop-block-preserved
loop-block-preserved c =
    let words = c.loop-block.words in
    let block = c.loop-block.block in
    let size = c.loop-block.invariant.0 in
    let inside : block < length words = omega (arith, size, c.loop-block-test.true) in
    (length-set words block c.word-in-loop-block.result ∙ size, block_more words block c.word-in-loop-block.result (is_within c.args.span) inside c.word-in-loop-block.ensures c.loop-block.invariant.1)
