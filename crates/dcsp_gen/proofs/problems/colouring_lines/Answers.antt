use Rattle.std.proofs.Common.{◌≡◌, ◌+◌, ◌-◌, ◌∙◌, arith, flat_map, suc}
use Rattle.std.specs.List.{range_with_len}
use Rattle.dcsp_gen.specs.Problems.{pairs_of}
use Rattle.dcsp_gen.proofs.problems.colouring_lines.Goals as goal

pub loop-first-preserved : goal.loop-first-preserved
loop-first-preserved c =
    let n = c.args.n in
    let first = c.loop-first.first in
    let left = n + 1 - (first + 1) in
    let more : n + 1 - first ≡ suc left = omega (arith, c.loop-first-test.true) in
    c.in_ok-push_edges.ensures (flat_map (pairs_of n) (range_with_len (first + 1) left)) ∙ (rw more at c.loop-first.invariant)
