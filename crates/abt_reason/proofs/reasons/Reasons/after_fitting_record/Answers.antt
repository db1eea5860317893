use Rattle.std.proofs.Common.{sym, subst, List, ℤ}
use Rattle.abt_reason.specs.Kept.{KeepsSteps, StepsStoodWithoutFitting}
use Rattle.abt_reason.specs.Cached.{Cached, StoodWithoutFitting}
use Rattle.abt_reason.proofs.Standing.{steps_without_fitting}
use Rattle.abt_reason.proofs.reasons.Reasons.after_fitting_record.Goals as goal

pub returns-clause-stands : goal.returns-clause-stands
returns-clause-stands c = λ known without.
    let agent = c.self.inside.agent in
    let items = c.args.store.now in
    let kept = c.self.inside.kept in
    let now = c.after_fitting_record.new.self in
    let here = subst (λ (r : Cached). StoodWithoutFitting r known items) (sym c.self.view_is) without in
    let before = subst (λ (values : List ℤ). StepsStoodWithoutFitting values agent known items kept.steps.items kept.count kept.own) (sym c.domain-domain.ensures) (steps_without_fitting _ known items here) in
    record {
      rules = here.stood.stood.rules;
      kept = subst (λ (values : List ℤ). KeepsSteps values agent known items now.steps.items now.count now.own) c.domain-domain.ensures (c.after_fitting_record.ensures.kept agent known before);
    }
