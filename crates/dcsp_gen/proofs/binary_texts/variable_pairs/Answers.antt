use Rattle.std.proofs.Common.{◌≡◌, ℕ, ◌++◌, ◌+◌, ◌-◌, List, flat_map, ap, sym, ◌∙◌, arith}
use Rattle.std.specs.List.{range_with_len}
use Rattle.dcsp_gen.proofs.Ranges.{flat_map_more}
use Rattle.dcsp_gen.specs.Problems.{pairs_of}
use Rattle.dcsp_gen.proofs.binary_texts.variable_pairs.Goals as goal

pub loop-first-preserved : goal.loop-first-preserved
loop-first-preserved c =
    let first = c.loop-first.first in
    let shape : first + 1 - 1 ≡ (first - 1) + 1 = omega (arith, c.loop-first.auto.first) in
    c.in_ok-push_later.ensures
    ∙ ap (λ (z : List (ℕ × ℕ)). z ++ pairs_of c.args.n first) c.loop-first.invariant
    ∙ sym (flat_map_more (pairs_of c.args.n) 1 (first - 1) first (omega (arith, c.loop-first.auto.first)))
    ∙ ap (λ n. flat_map (pairs_of c.args.n) (range_with_len 1 n)) (sym shape)
