use Rattle.std.proofs.Common.{◌≡◌, ◌+◌, ◌-◌, string_bytes, arith, flat_map}
use Rattle.std.specs.List.{range_with_len}
use Rattle.dcsp_gen.proofs.Ranges.{appended, rows_more}
use Rattle.dcsp_gen.specs.Problems.{queen_lines, pairs_of}
use Rattle.dcsp_gen.proofs.problems.queens_lines.Goals as goal

pub loop-first-preserved : goal.loop-first-preserved
loop-first-preserved c =
    let n = c.args.n in
    let first = c.loop-first.first in
    let more : first + 1 - 1 ≡ first - 1 + 1 = omega (arith, c.loop-first.auto.first) in
    rw (more, rows_more queen_lines (pairs_of n) 1 (first - 1) first (omega (arith, c.loop-first.auto.first)))
    (appended (string_bytes c.push_array.new.text) _ _ (flat_map queen_lines (flat_map (pairs_of n) (range_with_len 1 (first - 1)))) (flat_map queen_lines (pairs_of n first)) c.loop-first.invariant c.in_ok-push_queen.ensures)
