use Rattle.std.proofs.Common.{sym, ◌∙◌, arith, get_or}
use Rattle.fzn_token.specs.declared.class.Class.TheVariants as class
use Rattle.fzn_token.proofs.Runs.{run_more}
use Rattle.fzn_token.proofs.ByteClasses.{told}
use Rattle.fzn_token.proofs.PlainNumbers.{stops, digit_more, plain_here}
use Rattle.fzn_token.proofs.plain.plain_digits.Goals.{else-loop-at-test, then-loop-at-test+in_default}
use Rattle.fzn_token.proofs.plain.plain_digits.Goals as goal

pub loop-at-preserved : goal.loop-at-preserved
loop-at-preserved c =
    let inv = c.loop-at.invariant in
    let digit = told (get_or c.args.text.now c.loop-at.at 0) class.Digit (sym c.in-Digit.is ∙ c.class_of.ensures) in
    record {
      run = run_more inv.run c.loop-at-test.true digit;
      value = digit_more c.args.text.now c.args.from c.loop-at.at c.loop-at.value c.from.result inv.run.ordered c.loop-at-test.true digit inv.value c.from.ensures;
    }

pub returns-then-from-at : goal.returns-then-from-at
returns-then-from-at c =
    let inv = c.loop-at.invariant in
    plain_here c.args.text.now c.args.from c.loop-at.at c.loop-at.value c.if-from-at.true inv.run inv.value (λ below. elim c.loop-at-test.branch [
      | else-loop-at-test w ↦ absurd (omega (arith, w.loop-at-test.false, below))
      | then-loop-at-test+in_default w ↦ stops (get_or c.args.text.now c.loop-at.at 0) w.class_of.result w.class_of.ensures w.in_default.not-Digit w.in_default.not-Letter w.in_default.not-Twin
    ])
