use Rattle.std.proofs.Common.{sym, ap, ◌∙◌}
use Rattle.dcsp_defs.specs.declared.Step.{Step}
use Rattle.dcsp_rule.specs.Problems.{csp_of}
use Rattle.ngd_check.proofs.KeptLists.{step_there, step_at_place}
use Rattle.ngd_check.proofs.kept_steps.KeptSteps.reasons.Goals as goal

pub reasons-requires : goal.reasons-requires
reasons-requires c = step_there (csp_of c.self.inside.problem.now) c.self.inside.lists c.self.inside.rests c.args.self.now c.args.place c.self.view_is c.requires

pub returns : goal.returns
returns c = c.reasons.ensures ∙ sym (ap (λ (s : Step). s.reasons) (step_at_place (csp_of c.self.inside.problem.now) c.self.inside.lists c.self.inside.rests c.args.self.now c.args.place c.self.view_is c.requires))
