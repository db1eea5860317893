use Rattle.std.proofs.Common.{◌∙◌, ap, length, subst}
use Rattle.abt_reason.specs.Grids.{IsValueRun}
use Rattle.abt_reason.specs.Cached.{Cached, rules_of, size_of}
use Rattle.abt_reason.proofs.FoundRules.{run_found}
use Rattle.abt_reason.proofs.reasons.Reasons.run.Goals as goal

pub returns : goal.returns
returns c =
    subst (λ (r : Cached). IsValueRun r.rows (rules_of r.problem r.agent) (size_of r.problem r.agent) c.args.place c.run.result.first c.run.result.end) c.self.view_is
    (run_found _ _ _ _ _ _ _ _ c.len-values.result c.args.place c.run.result.first c.run.result.end c.self.invariant (c.len-values.ensures.len ∙ ap length c.domain.ensures) c.run.ensures)
