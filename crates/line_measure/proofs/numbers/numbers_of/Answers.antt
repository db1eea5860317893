use Rattle.std.proofs.Common.{◌∙◌, List, ap, refl, subst, sym}
use Rattle.abt_measure.specs.declared.row.Row.{Row}
use Rattle.abt_measure.specs.Counting.{AreRows}
use Rattle.dcsp_rule.specs.Problems.{Contents, csp_of}
use Rattle.abt_defs.specs.Events.{acts}
use Rattle.abt_measure.specs.Whole.{used}
use Rattle.abt_network.specs.Standing.{standing_of}
use Rattle.line_replay.specs.Asked.{most_deliveries}
use Rattle.line_measure.specs.Numbers.{numbers_of, run_under}
use Rattle.line_measure.proofs.NumberLaws.{standing_is}
use Rattle.line_measure.proofs.numbers.numbers_of.Goals as goal

pub returns : goal.returns
unfolding numbers_of
returns c = λ p choices listens h.
    let q = csp_of p in
    let done = acts q (used q most_deliveries choices) in
    let counted = h.after.measured.counted in
    let sums = c.in_ok-sum.ensures q done (subst (λ (l : List Row). AreRows q done l) (sym c.rows.ensures) counted.rows) in
    let end = c.state.ensures.machine (run_under q choices).net h.stands h.after.sound ∙ ap (λ (z : Contents). standing_of (csp_of z) (run_under q choices).net) h.after.problem ∙ standing_is q choices in
    let deliveries = c.deliveries.ensures ∙ h.stands.deliveries in
    let steps = c.steps.ensures.steps ∙ h.stands.steps in
    let both = c.all_checks.ensures q done counted in
    let alone = c.constraints_alone.ensures q done counted in
    let chain = c.longest_chain.ensures q done counted in
    let recorded = c.most_recorded.ensures ∙ h.after.measured.most in
    let transit = c.most_in_transit.ensures ∙ h.after.measured.transit in
    rw (end, deliveries, sums, steps, both, alone, chain, recorded, transit) refl
