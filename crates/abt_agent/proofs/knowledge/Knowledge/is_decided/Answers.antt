use Rattle.std.proofs.Common.{ap, is_some, ◌∙◌, ℕ}
use Rattle.std.specs.List.{list_all}
use Rattle.dcsp_defs.specs.Csp.{with_value}
use Rattle.abt_agent.specs.Causes.{told_to}
use Rattle.abt_agent.proofs.knowledge.Knowledge.is_decided.Goals as goal

pub returns : goal.returns
returns c = λ v. c.knows_all.ensures v ∙ ap (list_all (λ (k : ℕ). is_some (with_value c.args.self.now.me v (told_to c.args.self.now) k))) c.scope.ensures.scope
