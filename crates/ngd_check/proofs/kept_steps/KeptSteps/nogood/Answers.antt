use Rattle.std.proofs.Common.{sym, ap, ◌∙◌}
use Rattle.dcsp_defs.specs.declared.Step.{Step}
use Rattle.dcsp_rule.specs.Problems.{csp_of}
use Rattle.ngd_check.specs.Places.{pairs_of}
use Rattle.ngd_check.proofs.KeptLists.{step_at_place}
use Rattle.ngd_check.proofs.kept_steps.KeptSteps.nogood.Goals as goal

pub returns-in-Ok : goal.returns-in-Ok
returns-in-Ok c =
    let p = csp_of c.self.inside.problem.now in
    c.in-Ok.ensures.pairs
    ∙ (c.in_ok-pairs.ensures
    ∙ (ap (pairs_of p) c.list_in.ensures
    ∙ sym (ap (λ (s : Step). s.nogood) (step_at_place p c.self.inside.lists c.self.inside.rests c.args.self.now c.args.place c.self.view_is c.requires))))
