use Rattle.std.proofs.Common.{◌≡◌, ◌+◌, ◌-◌, string_bytes, arith, map, flat_map, codes}
use Rattle.std.specs.List.{range_with_len}
use Rattle.dcsp_gen.proofs.Ranges.{appended, made_more}
use Rattle.dcsp_gen.specs.Lines.{differ_line, diagonal_lines}
use Rattle.dcsp_gen.specs.Problems.{queen_lines}
use Rattle.dcsp_gen.proofs.problems.push_queen.Goals as goal

pub loop-second-preserved : goal.loop-second-preserved
loop-second-preserved c =
    let first = c.args.first in
    let second = c.loop-second.second in
    let count = second - (first + 1) in
    let q = codes "q" in
    let more : second + 1 - (first + 1) ≡ count + 1 = omega (arith, c.loop-second.auto.second) in
    let next : first + 1 + count ≡ second = omega (arith, c.loop-second.auto.second) in
    let lines = appended (string_bytes c.loop-second.text) _ _ (differ_line q first second) (diagonal_lines q first second) c.in_ok-push_differ.ensures c.in_ok-push_diagonals.ensures in
    rw (more, made_more queen_lines (λ second. (first, second)) (first + 1) count second next)
    (appended (string_bytes c.args.text.now) _ _ (flat_map queen_lines (map (λ second. (first, second)) (range_with_len (first + 1) count))) (queen_lines (first, second)) c.loop-second.invariant lines)
