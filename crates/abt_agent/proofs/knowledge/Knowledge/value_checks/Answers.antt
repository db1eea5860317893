use Rattle.std.proofs.Common.{◌∙◌}
use Rattle.abt_defs.specs.Agents.{values_in}
use Rattle.abt_parts.specs.Views.{view_of}
use Rattle.abt_reason.specs.Causes.{value_at}
use Rattle.abt_agent.proofs.Examining.{counted}
use Rattle.abt_agent.proofs.knowledge.Knowledge.value_checks.Goals as goal

pub returns-clause-constraints : goal.returns-clause-constraints
returns-clause-constraints c =
    let k = c.args.self.now in
    let v = value_at k.problem.now k.me c.args.place in
    c.decided_among.ensures v ∙ counted k.problem.now k.me (values_in (view_of k.view)) v c.looked_at-end.result c.looked_at-end.ensures.looked_at
