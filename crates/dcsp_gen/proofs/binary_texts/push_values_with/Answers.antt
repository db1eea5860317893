use Rattle.std.proofs.Common.{ℕ, ◌++◌, ◌∷◌, [], List, map, ap, sym, ◌∙◌, append_assoc, arith}
use Rattle.std.specs.List.{range_with_len}
use Rattle.dcsp_gen.proofs.Ranges.{mapped_more}
use Rattle.dcsp_gen.proofs.binary_texts.push_values_with.Goals as goal

pub loop-second-preserved : goal.loop-second-preserved
loop-second-preserved c =
    let second = c.loop-second.second in
    let pair : ℕ → ℕ × ℕ = λ n. (c.args.first, n) in
    let before : List (ℕ × ℕ) = c.args.list.now.items in
    c.in_ok-push.ensures.items
    ∙ ap (λ (z : List (ℕ × ℕ)). z ++ pair second ∷ []) c.loop-second.invariant
    ∙ append_assoc before (map pair (range_with_len 0 second)) (pair second ∷ [])
    ∙ ap (λ (z : List (ℕ × ℕ)). before ++ z) (sym (mapped_more pair 0 second second (omega arith)))
