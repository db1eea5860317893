use Rattle.std.proofs.Common.{◌∙◌, List, ℕ, ap, arith}
use Rattle.std.specs.List.{concat}
use Rattle.std.proofs.lemmas.List.{take_all}
use Rattle.dcsp_order.proofs.TextLines.{front_lines}
use Rattle.dcsp_order.proofs.TextAnswered.{text_more, text_end}
use Rattle.dcsp_order.proofs.text.text_of.Goals as goal

pub loop-number-preserved : goal.loop-number-preserved
loop-number-preserved c =
    c.in_ok-push_variable.ensures
    ∙ text_more c.loop-number.text.items c.args.numbers.now c.loop-number.number-index c.loop-number-test.true c.loop-number.invariant

pub returns : goal.returns
returns c =
    let numbers : List ℕ = c.args.numbers.now in
    c.in_ok-extend_from_slice-2.ensures.items
    ∙ text_end c.loop-number.text.items numbers
    (c.loop-number.invariant ∙ ap (λ (o : List ℕ). concat (front_lines o)) (take_all c.loop-number.number-index numbers (omega (arith, c.loop-number-test.false))))
