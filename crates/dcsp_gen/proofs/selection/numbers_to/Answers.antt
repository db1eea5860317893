use Rattle.std.proofs.Common.{◌≡◌, ℕ, ◌++◌, ◌∷◌, [], ◌+◌, ◌-◌, List, ap, sym, ◌∙◌, arith}
use Rattle.std.specs.List.{range_with_len}
use Rattle.dcsp_gen.proofs.Ranges.{range_more}
use Rattle.dcsp_gen.proofs.selection.numbers_to.Goals as goal

pub loop-number-preserved : goal.loop-number-preserved
loop-number-preserved c =
    let n = c.loop-number.number in
    let shape : n + 1 - 1 ≡ (n - 1) + 1 = omega (arith, c.loop-number.auto.number) in
    c.in_ok-push.ensures.items
    ∙ ap (λ (z : List ℕ). z ++ n ∷ []) c.loop-number.invariant
    ∙ sym (range_more 1 (n - 1) n (omega (arith, c.loop-number.auto.number)))
    ∙ ap (range_with_len 1) (sym shape)
