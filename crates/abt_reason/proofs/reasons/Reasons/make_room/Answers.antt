use Rattle.std.proofs.Common.{ap, length, sym, subst, ◌∙◌}
use Rattle.dcsp_defs.specs.Csp.{domain}
use Rattle.dcsp_rule.specs.Problems.{csp_of}
use Rattle.abt_reason.specs.Kept.{KeepsSteps}
use Rattle.abt_reason.specs.Cached.{Cached, StandsFor}
use Rattle.abt_reason.proofs.reasons.Reasons.make_room.Goals as goal

pub returns-clause-stands : goal.returns-clause-stands
returns-clause-stands c = λ known items stands.
    let p = c.self.inside.problem.now in
    let agent = c.self.inside.agent in
    let stood = subst (λ (r : Cached). StandsFor r known items) (sym c.self.view_is) stands in
    let values = domain (csp_of p) agent in
    let now = c.make_room.new.self in
    let kept = c.make_room.ensures.kept values agent known items (sym (c.len-values.ensures.len ∙ ap length c.domain.ensures)) stood.kept in
    record {
      rules = stood.rules;
      kept = subst (λ n. KeepsSteps values agent known items now.steps.items n now.own) (sym c.make_room.ensures.count)
          (subst (λ own. KeepsSteps values agent known items now.steps.items c.self.inside.kept.count own) (sym c.make_room.ensures.own) kept);
    }
