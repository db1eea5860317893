use Rattle.std.proofs.Common.{◌≡◌, List, ℕ, sym, subst, rules}
use Rattle.dcsp_defs.specs.declared.Step.{Step}
use Rattle.ngd_log.specs.StepText.{IsInRange}
use Rattle.dcsp_order.specs.Renumbered.{step_renumbered}
use Rattle.dcsp_order.proofs.Telling.{step_in_range}
use Rattle.dcsp_order.proofs.order.Order.step_told.Goals as goal

pub returns-clause-in_range : goal.returns-clause-in_range
returns-clause-in_range c = λ h.
    let order : List ℕ = c.args.self.now in
    let told : Step = record { variable = c.match-step.variable; nogood = c.in_ok-nogood.nogood; reasons = c.in_ok-copy.copy.reasons } in
    let same : told ≡ step_renumbered order c.args.step.now = search rules in
    subst IsInRange (sym same) (step_in_range order c.has_each_once.ensures.order c.has_each_once.ensures.few c.args.step.now h)
