use Rattle.std.proofs.Common.{◌≡◌, ◌+◌, ◌-◌, ◌++◌, ◌∙◌, string_bytes, arith, map, suc}
use Rattle.std.specs.List.{range_with_len}
use Rattle.dcsp_gen.proofs.Drawn.{one_word}
use Rattle.dcsp_gen.specs.Problems.{edge_line}
use Rattle.dcsp_gen.proofs.problems.push_edges.Goals as goal

pub loop-second-init : goal.loop-second-init
loop-second-init c =
    let count : c.args.n + 1 - (c.args.first + 1) ≡ c.args.n - c.args.first = omega arith in
    λ later. rw count

pub loop-second-preserved : goal.loop-second-preserved
loop-second-preserved c =
    let first = c.args.first in
    let second = c.loop-second.second in
    let left = c.args.n + 1 - (second + 1) in
    let more : c.args.n + 1 - second ≡ suc left = omega (arith, c.loop-second-test.true) in
    let one = one_word edge_line (string_bytes c.loop-second.text) _ c.loop-second.words _ _ (first, second) c.next_word-word.ensures c.in_ok-push_edge.ensures in
    λ later. one (map (λ second. (first, second)) (range_with_len (second + 1) left) ++ later) ∙ (rw more at c.loop-second.invariant) later

pub returns : goal.returns
returns c =
    let none : c.args.n + 1 - c.loop-second.second ≡ 0 = omega (arith, c.loop-second-test.false) in
    rw none at c.loop-second.invariant
