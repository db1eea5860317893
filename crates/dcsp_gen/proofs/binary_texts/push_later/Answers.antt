use Rattle.std.proofs.Common.{◌≡◌, ℕ, ◌++◌, ◌∷◌, [], ◌+◌, ◌-◌, List, map, ap, sym, ◌∙◌, append_assoc, arith}
use Rattle.std.specs.List.{range_with_len}
use Rattle.dcsp_gen.proofs.Ranges.{mapped_more}
use Rattle.dcsp_gen.proofs.binary_texts.push_later.Goals as goal

pub loop-second-preserved : goal.loop-second-preserved
loop-second-preserved c =
    let first = c.args.first in
    let second = c.loop-second.second in
    let pair : ℕ → ℕ × ℕ = λ n. (first, n) in
    let before : List (ℕ × ℕ) = c.args.list.now.items in
    let shape : second + 1 - (first + 1) ≡ (second - (first + 1)) + 1 = omega (arith, c.loop-second.auto.second) in
    let more = mapped_more pair (first + 1) (second - (first + 1)) second (omega (arith, c.loop-second.auto.second)) in
    c.in_ok-push.ensures.items
    ∙ ap (λ (z : List (ℕ × ℕ)). z ++ pair second ∷ []) c.loop-second.invariant
    ∙ append_assoc before (map pair (range_with_len (first + 1) (second - (first + 1)))) (pair second ∷ [])
    ∙ ap (λ (z : List (ℕ × ℕ)). before ++ z) (sym more ∙ ap (λ n. map pair (range_with_len (first + 1) n)) (sym shape))
