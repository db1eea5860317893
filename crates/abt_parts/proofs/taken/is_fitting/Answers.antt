use Rattle.std.proofs.Common.{◌<◌, ◌≤◌, ◌-◌, length, ap, sym, ◌∙◌, arith, subst}
use Rattle.dcsp_defs.specs.Pairs.{var_at, IsRising}
use Rattle.abt_parts.proofs.Fitting.{all_fit, fits_above, fits_here}
use Rattle.abt_parts.proofs.taken.is_fitting.Goals as goal

pub returns-then-pairs-at : goal.returns-then-pairs-at
returns-then-pairs-at c =
    let pairs = c.pairs-pairs.result.now in
    let var = c.args.known.var in
    let value = c.args.known.value in
    let at = c.loop-at.at - 1 in
    let up = subst IsRising (sym c.pairs-pairs.ensures.pairs) c.pairs-pairs.ensures.rising in
    let within : at < length pairs = omega (arith, c.loop-at-test.true, c.loop-at.invariant.within) in
    let below : var_at pairs at ≤ var = search arith in
    c.agrees.ensures
    ∙ fits_here pairs var value at up within below (λ k from inside. c.loop-at.invariant.above k (omega (arith, from, c.loop-at-test.true)) inside)
    ∙ ap (all_fit var value) c.pairs-pairs.ensures.pairs

pub returns : goal.returns
returns c =
    let pairs = c.pairs-pairs.result.now in
    let var = c.args.known.var in
    let value = c.args.known.value in
    sym (fits_above pairs var value (λ k inside. c.loop-at.invariant.above k (omega (arith, c.loop-at-test.false)) inside)) ∙ ap (all_fit var value) c.pairs-pairs.ensures.pairs
