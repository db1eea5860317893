use Rattle.std.proofs.Common.{ap, ◌∙◌, None, Some, rules, w64, SFits}
use Rattle.std.proofs.lemmas.Int.{to_z-of_z}
use Rattle.abt_defs.specs.Agents.{values_in}
use Rattle.abt_parts.specs.Views.{view_of}
use Rattle.abt_agent.proofs.Causes.{free_moved, least_at}
use Rattle.abt_agent.proofs.knowledge.Knowledge.least_free.Goals as goal

pub value_at-requires-clause-place : goal.value_at-requires-clause-place
value_at-requires-clause-place c =
    let k = c.args.self.now in
    let s = c.requires in
    (free_moved k.problem.now k.reasons.problem k.me k.reasons.agent (values_in (view_of k.view)) k.store (Some c.in-Some.place) s.problem s.agent (c.in-Some.ensures (values_in (view_of k.view)) k.store s.stands)).0

pub returns-in-Some : goal.returns-in-Some
returns-in-Some c =
    let k = c.args.self.now in
    let s = c.requires in
    let known = values_in (view_of k.view) in
    let v = c.value_at.result in
    let fits : SFits w64 v = search rules in
    let first = free_moved k.problem.now k.reasons.problem k.me k.reasons.agent known k.store (Some c.in-Some.place) s.problem s.agent (c.in-Some.ensures known k.store s.stands) in
    ap Some (to_z-of_z w64 v fits ∙ c.value_at.ensures) ∙ least_at k.problem.now k.me known k.store (Some c.in-Some.place) first

pub returns-in-None : goal.returns-in-None
returns-in-None c =
    let k = c.args.self.now in
    let s = c.requires in
    let known = values_in (view_of k.view) in
    let first = free_moved k.problem.now k.reasons.problem k.me k.reasons.agent known k.store None s.problem s.agent (c.in-None.ensures known k.store s.stands) in
    least_at k.problem.now k.me known k.store None first
