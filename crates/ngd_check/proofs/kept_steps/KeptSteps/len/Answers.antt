use Rattle.std.proofs.Common.{length, sym, ap, ◌∙◌}
use Rattle.dcsp_rule.specs.Problems.{csp_of}
use Rattle.ngd_check.specs.Places.{step_in}
use Rattle.ngd_store.proofs.Below.{below_length}
use Rattle.ngd_check.proofs.kept_steps.KeptSteps.len.Goals as goal

pub returns-clause-len : goal.returns-clause-len
returns-clause-len c = c.len.ensures.len ∙ (sym (below_length (step_in (csp_of c.self.inside.problem.now) c.self.inside.lists c.self.inside.rests) (length c.self.inside.rests)) ∙ ap length c.self.view_is)
