use Rattle.std.proofs.Common.{◌≡◌, ◌+◌, ◌-◌, ◌∙◌, arith, flat_map, suc}
use Rattle.std.specs.List.{range_with_len}
use Rattle.dcsp_gen.specs.Problems.{thrice}
use Rattle.dcsp_gen.proofs.problems.sparse_lines.Goals as goal

pub loop-node-preserved : goal.loop-node-preserved
loop-node-preserved c =
    let n = c.args.n in
    let node = c.loop-node.node in
    let left = n + 1 - (node + 1) in
    let more : n + 1 - node ≡ suc left = omega (arith, c.loop-node-test.true) in
    c.in_ok-push_neighbours.ensures (flat_map thrice (range_with_len (node + 1) left)) ∙ (rw more at c.loop-node.invariant)
