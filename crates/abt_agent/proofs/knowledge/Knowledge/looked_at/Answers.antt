use Rattle.std.proofs.Common.{length, Some, None, ap, sym, subst, arith, ℕ, List}
use Rattle.dcsp_defs.specs.Csp.{with_value}
use Rattle.abt_defs.specs.Agents.{values_in}
use Rattle.abt_parts.specs.Views.{view_of}
use Rattle.abt_reason.specs.Causes.{value_at}
use Rattle.abt_agent.specs.Examined.{AreLookedAt}
use Rattle.abt_agent.proofs.Examining.{first_moved, some_looked_at, all_looked_at}
use Rattle.abt_agent.proofs.knowledge.Knowledge.looked_at.Goals as goal

pub returns-in-Some-clause-within : goal.returns-in-Some-clause-within
returns-in-Some-clause-within c =
    let k = c.args.self.now in
    let known = values_in (view_of k.view) in
    let f = first_moved k.problem.now k.reasons.problem k.me k.reasons.agent known c.args.place c.first_rule.result (Some c.in-Some.at) c.requires.in_step.problem c.requires.in_step.agent (c.first_rule.ensures known k.store c.requires.in_step.stands) c.in-Some.is in
    let l = f.0 in omega (arith, l)

pub returns-in-Some-clause-looked_at : goal.returns-in-Some-clause-looked_at
returns-in-Some-clause-looked_at c =
    let k = c.args.self.now in
    let known = values_in (view_of k.view) in
    some_looked_at k.problem.now k.me (with_value k.me (value_at k.problem.now k.me c.args.place) known) c.in-Some.at
    (first_moved k.problem.now k.reasons.problem k.me k.reasons.agent known c.args.place c.first_rule.result (Some c.in-Some.at) c.requires.in_step.problem c.requires.in_step.agent (c.first_rule.ensures known k.store c.requires.in_step.stands) c.in-Some.is)

pub returns-in-None-clause-looked_at : goal.returns-in-None-clause-looked_at
returns-in-None-clause-looked_at c =
    let k = c.args.self.now in
    let known = values_in (view_of k.view) in
    let values = with_value k.me (value_at k.problem.now k.me c.args.place) known in
    subst (AreLookedAt k.problem.now k.me values) (ap (λ (l : List ℕ). length l) (sym c.owned.ensures.rules))
    (all_looked_at k.problem.now k.me values
    (first_moved k.problem.now k.reasons.problem k.me k.reasons.agent known c.args.place c.first_rule.result None c.requires.in_step.problem c.requires.in_step.agent (c.first_rule.ensures known k.store c.requires.in_step.stands) c.in-None.is))
