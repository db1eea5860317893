use Rattle.std.proofs.Common.{arith, ◌∙◌, refl, ap}
use Rattle.std.specs.Prelude.{slice_range}
use Rattle.std.specs.Char.{digit_value}
use Rattle.fzn_token.proofs.DigitValues.{value_more, sum_fits, value_all}
use Rattle.fzn_token.proofs.digits.magnitude.Goals as goal

pub returns-in_err-checked_mul : goal.returns-in_err-checked_mul
returns-in_err-checked_mul c = rw c.from_residual-in_err-checked_mul.ensures (λ small.
    let fits = sum_fits c.args.base (slice_range c.args.text.now c.args.from c.args.to) c.loop-b.b-index c.loop-b.n _ _ _ (omega arith) c.loop-b.invariant.1 c.from-in-loop-b.ensures refl c.requires.at_least small in
    c.in_err-checked_mul.ensures (omega (arith, fits)))

pub returns-in_err-n : goal.returns-in_err-n
returns-in_err-n c = rw c.from_residual-in_err-n.ensures (λ small.
    let digit = c.in_ok-digit.ensures.value.1 ∙ ap digit_value c.from.ensures in
    let fits = sum_fits c.args.base (slice_range c.args.text.now c.args.from c.args.to) c.loop-b.b-index c.loop-b.n _ _ _ (omega arith) c.loop-b.invariant.1 c.from-in-loop-b.ensures digit c.requires.at_least small in
    c.in_err-n.ensures (omega (arith, fits, c.in_ok-checked_mul.ensures.1, c.from-in-loop-b-2.ensures)))

pub loop-b-preserved : goal.loop-b-preserved
loop-b-preserved c =
    let digit = c.in_ok-digit.ensures.value.1 ∙ ap digit_value c.from.ensures in
    let more = value_more c.args.base (slice_range c.args.text.now c.args.from c.args.to) c.loop-b.b-index c.loop-b.n _ _ (omega arith) c.loop-b.invariant.1 c.from-in-loop-b.ensures digit in
    (omega (arith, c.in_ok-n.ensures.0, c.in_ok-n.ensures.1), omega (arith, more, c.in_ok-n.ensures.1, c.in_ok-checked_mul.ensures.1, c.from-in-loop-b-2.ensures))

pub returns : goal.returns
returns c =
    let whole = value_all c.args.base (slice_range c.args.text.now c.args.from c.args.to) c.loop-b.b-index c.loop-b.n (omega arith) c.loop-b.invariant.1 in
    (omega (arith, whole, c.loop-b.invariant.0), whole)
