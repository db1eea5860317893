use Rattle.std.proofs.Common.{◌≡◌, ap, sym, ◌∙◌, Some, rules, w64, SFits}
use Rattle.std.proofs.lemmas.Int.{to_z-of_z}
use Rattle.dcsp_defs.specs.declared.Reason.TheVariants.{Rule, Earlier}
use Rattle.dcsp_defs.specs.Csp.{domain}
use Rattle.abt_defs.specs.Agents.{values_in}
use Rattle.dcsp_rule.specs.Problems.{csp_of}
use Rattle.abt_parts.specs.Views.{view_of}
use Rattle.abt_reason.specs.Causes.{value_at}
use Rattle.abt_agent.specs.Causes.{first_against}
use Rattle.abt_agent.proofs.Causes.{reason_moved, no_reason, rule_reason, step_reason, step_some}
use Rattle.abt_agent.proofs.Against.{against_is}
use Rattle.abt_agent.proofs.Proper.{proper_own}
use Rattle.abt_agent.proofs.knowledge.Knowledge.cause_in.Goals as goal

pub returns-in-None-clause-cause : goal.returns-in-None-clause-cause
returns-in-None-clause-cause c =
    let p = c.args.self.now.problem.now in
    let me = c.args.self.now.me in
    let values = domain (csp_of p) me in
    let known = values_in (view_of c.args.self.now.view) in
    let store = c.args.self.now.store in
    let r = c.args.self.now.reasons in
    let place = c.args.place in
    let v = value_at p me place in
    let found = reason_moved p r.problem me r.agent known store place c.first_in.result c.requires.in_step.problem c.requires.in_step.agent (c.first_in.ensures.reason known store c.requires.in_step.stands) in
    no_reason p me known store v (sym found ∙ c.in-None.is)

pub returns-in-Some-Rule-clause-cause : goal.returns-in-Some-Rule-clause-cause
returns-in-Some-Rule-clause-cause c =
    let p = c.args.self.now.problem.now in
    let me = c.args.self.now.me in
    let values = domain (csp_of p) me in
    let known = values_in (view_of c.args.self.now.view) in
    let store = c.args.self.now.store in
    let r = c.args.self.now.reasons in
    let place = c.args.place in
    let v = value_at p me place in
    let found = reason_moved p r.problem me r.agent known store place c.first_in.result c.requires.in_step.problem c.requires.in_step.agent (c.first_in.ensures.reason known store c.requires.in_step.stands) in
    let is : c.first_in.result ≡ Some (Rule c.in-Some-Rule.rule) = cc (c.in-Some-Rule.is, c.in-Some-Rule.field-0-is) in
    rule_reason p me known store v c.in-Some-Rule.rule (sym found ∙ is)

pub returns-in-Some-Earlier-clause-cause : goal.returns-in-Some-Earlier-clause-cause
returns-in-Some-Earlier-clause-cause c =
    let p = c.args.self.now.problem.now in
    let me = c.args.self.now.me in
    let values = domain (csp_of p) me in
    let known = values_in (view_of c.args.self.now.view) in
    let store = c.args.self.now.store in
    let r = c.args.self.now.reasons in
    let place = c.args.place in
    let v = value_at p me place in
    let found = reason_moved p r.problem me r.agent known store place c.first_in.result c.requires.in_step.problem c.requires.in_step.agent (c.first_in.ensures.reason known store c.requires.in_step.stands) in
    let is : c.first_in.result ≡ Some (Earlier c.in-Some-Earlier.field-0-0) = cc (c.in-Some-Earlier.is, c.in-Some-Earlier.field-0-is) in
    let fits : SFits w64 c.value_at.result = search rules in
    let found_step = sym found ∙ is in
    c.against.ensures.cause
    ∙ ap (λ w. first_against w 0 store) (to_z-of_z w64 c.value_at.result fits ∙ c.value_at.ensures)
    ∙ against_is me v known 0 store (proper_own (csp_of p) me store c.requires.proper) (c.against.ensures.once v) (step_some p me known store v c.in-Some-Earlier.field-0-0 found_step)
    ∙ step_reason p me known store v c.in-Some-Earlier.field-0-0 found_step

pub returns-in-None-clause-rule : goal.returns-in-None-clause-rule
returns-in-None-clause-rule c = λ at first. let found = c.first_in.ensures.rule at first in cc

pub returns-in-Some-Rule-clause-rule : goal.returns-in-Some-Rule-clause-rule
returns-in-Some-Rule-clause-rule c = λ at first. let found = c.first_in.ensures.rule at first in cc (c.in-Some-Rule.is, c.in-Some-Rule.field-0-is)

pub returns-in-Some-Earlier-clause-rule : goal.returns-in-Some-Earlier-clause-rule
returns-in-Some-Earlier-clause-rule c = λ at first. let found = c.first_in.ensures.rule at first in cc (c.in-Some-Earlier.is, c.in-Some-Earlier.field-0-is)
