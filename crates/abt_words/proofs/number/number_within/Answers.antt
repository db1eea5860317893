use Rattle.std.proofs.Common.{arith, sym, ◌∙◌}
use Rattle.std.proofs.lemmas.Fmt.{decimal_injective}
use Rattle.abt_words.proofs.number.number_within.Goals as goal

pub returns-then-number-least-clause-none : goal.returns-then-number-least-clause-none
returns-then-number-least-clause-none c = λ none n least most fits e.
    let same = decimal_injective c.in_ok-number.number n c.in_ok-number.ensures.fits fits (sym c.in_ok-number.ensures.some ∙ e) in
    omega (arith, same, least, c.if-number-least.true)

pub returns-then-most-number-clause-none : goal.returns-then-most-number-clause-none
returns-then-most-number-clause-none c = λ none n least most fits e.
    let same = decimal_injective c.in_ok-number.number n c.in_ok-number.ensures.fits fits (sym c.in_ok-number.ensures.some ∙ e) in
    omega (arith, same, most)
