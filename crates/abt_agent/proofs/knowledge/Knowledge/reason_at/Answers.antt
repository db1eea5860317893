use Rattle.abt_defs.specs.Agents.{values_in}
use Rattle.abt_parts.specs.Views.{view_of}
use Rattle.abt_agent.proofs.Causes.{reason_moved}
use Rattle.abt_agent.proofs.knowledge.Knowledge.reason_at.Goals as goal

pub returns : goal.returns
returns c =
    let k = c.args.self.now in
    let known = values_in (view_of k.view) in
    reason_moved k.problem.now k.reasons.problem k.me k.reasons.agent known k.store c.args.place c.first.result c.requires.in_step.problem c.requires.in_step.agent (c.first.ensures known k.store c.requires.in_step.stands)
