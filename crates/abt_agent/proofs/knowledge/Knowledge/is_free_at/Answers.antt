use Rattle.std.proofs.Common.{ap, ◌∙◌, not, is_some, Option}
use Rattle.dcsp_defs.specs.declared.Reason.{Reason}
use Rattle.dcsp_defs.specs.Csp.{domain}
use Rattle.abt_defs.specs.Agents.{values_in}
use Rattle.dcsp_rule.specs.Problems.{csp_of}
use Rattle.abt_parts.specs.Views.{view_of}
use Rattle.abt_reason.specs.Causes.{value_at}
use Rattle.abt_agent.proofs.Causes.{flip, reason_moved, reason_some}
use Rattle.abt_agent.proofs.knowledge.Knowledge.is_free_at.Goals as goal

pub returns : goal.returns
returns c =
    let p = c.args.self.now.problem.now in
    let me = c.args.self.now.me in
    let values = domain (csp_of p) me in
    let known = values_in (view_of c.args.self.now.view) in
    let store = c.args.self.now.store in
    let r = c.args.self.now.reasons in
    let place = c.args.place in
    let v = value_at p me place in
    let found = reason_moved p r.problem me r.agent known store place c.first.result c.requires.in_step.problem c.requires.in_step.agent (c.first.ensures known store c.requires.in_step.stands) in
    flip (is_some c.first.result) c.is_none.result c.is_none.ensures ∙ ap (λ (o : Option Reason). not (is_some o)) found ∙ ap not (reason_some p me known store v)
