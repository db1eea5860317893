use Rattle.std.proofs.Common.{sym, ap, ◌∙◌}
use Rattle.dcsp_defs.specs.declared.Step.{Step}
use Rattle.dcsp_rule.specs.Problems.{csp_of}
use Rattle.ngd_check.proofs.KeptLists.{step_there, step_at_place}
use Rattle.ngd_check.proofs.kept_steps.KeptSteps.variable.Goals as goal

pub variable-requires : goal.variable-requires
variable-requires c = step_there (csp_of c.self.inside.problem.now) c.self.inside.lists c.self.inside.rests c.args.self.now c.args.place c.self.view_is c.requires

pub returns : goal.returns
returns c = c.variable.ensures ∙ sym (ap (λ (s : Step). s.variable) (step_at_place (csp_of c.self.inside.problem.now) c.self.inside.lists c.self.inside.rests c.args.self.now c.args.place c.self.view_is c.requires))
