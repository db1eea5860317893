use Rattle.std.proofs.Common.{string_bytes}
use Rattle.dcsp_gen.proofs.Drawn.{one_word}
use Rattle.dcsp_gen.specs.Problems.{neighbour_line}
use Rattle.dcsp_gen.proofs.problems.push_neighbour.Goals as goal

pub returns : goal.returns
returns c = one_word neighbour_line (string_bytes c.args.text.now) _ c.args.words.now _ _ c.args.node c.next_word-word.ensures c.in_ok-push_differ.ensures
