use Rattle.std.proofs.Common.{◌≡◌, ◌+◌, ◌-◌, string_bytes, arith, map, flat_map}
use Rattle.std.specs.List.{range_with_len}
use Rattle.dcsp_gen.proofs.Ranges.{appended, made_more}
use Rattle.dcsp_gen.specs.Problems.{apart_line}
use Rattle.dcsp_gen.proofs.problems.push_apart.Goals as goal

pub loop-second-preserved : goal.loop-second-preserved
loop-second-preserved c =
    let first = c.args.first in
    let second = c.loop-second.second in
    let count = second - (first + 1) in
    let more : second + 1 - (first + 1) ≡ count + 1 = omega (arith, c.loop-second.auto.second) in
    let next : first + 1 + count ≡ second = omega (arith, c.loop-second.auto.second) in
    rw (more, made_more apart_line (λ second. (first, second)) (first + 1) count second next)
    (appended (string_bytes c.args.text.now) _ _ (flat_map apart_line (map (λ second. (first, second)) (range_with_len (first + 1) count))) (apart_line (first, second)) c.loop-second.invariant c.in_ok-push_differ.ensures)
