use Rattle.std.proofs.Common.{◌∙◌, ◌≤◌, [], List, length, ap, sym, subst}
use Rattle.dcsp_defs.specs.Csp.{IsCsp, count}
use Rattle.dcsp_defs.specs.declared.Step.{Step}
use Rattle.dcsp_rule.specs.Problems.{Contents, csp_of}
use Rattle.abt_defs.specs.Events.{start_acts}
use Rattle.abt_defs.specs.Network.{start}
use Rattle.law_runs.specs.Starts.{settled_in, StartsWith}
use Rattle.abt_network.specs.Standing.{steps_of, StandsAt}
use Rattle.abt_measure.specs.Measuring.{EndsEvent, IsCounted}
use Rattle.abt_measure.proofs.ClockLaws.{on_ok}
use Rattle.abt_measure.proofs.StartLaws.{any_ok, measured_start}
use Rattle.abt_measure.proofs.starting.start.Goals as goal

pub settled_by-settled-requires : goal.settled_by-settled-requires
settled_by-settled-requires c =
    let p = csp_of c.args.network.now.problem in
    let n = c.vars.ensures.vars ∙ ap (λ (q : Contents). length q.domains) (sym c.requires.problem) in
    let few = subst (λ (l : List Step). settled_in (count p) l ≤ count p) c.in_ok-begun.ensures.starts.steps (c.starts_in_order.ensures p).few in
    subst (λ k. settled_in k (steps_of c.in_ok-begun.begun) ≤ k) (sym n) few

pub count_settlings-requires-clause-stands : goal.count_settlings-requires-clause-stands
count_settlings-requires-clause-stands c = subst (λ (q : Contents). StandsAt c.start.new.self (start (csp_of q))) (sym c.in_ok-begun.ensures.problem) c.in_ok-begun.ensures.starts.stands

pub count_settlings-requires-clause-starts : goal.count_settlings-requires-clause-starts
count_settlings-requires-clause-starts c =
    let p = csp_of c.args.network.now.problem in
    let n = c.vars.ensures.vars ∙ ap (λ (q : Contents). length q.domains) (sym c.requires.problem) in
    let settled = ap (settled_in (count p)) c.in_ok-begun.ensures.starts.steps ∙ ap (λ k. settled_in k (steps_of c.in_ok-begun.begun)) (sym n) ∙ sym c.settled_by-settled.ensures in
    subst (λ (q : Contents). StartsWith (csp_of q) c.settled_by-settled.result) (sym c.in_ok-begun.ensures.problem) (subst (StartsWith p) settled (c.starts_in_order.ensures p))

pub count_settlings-requires-clause-csp : goal.count_settlings-requires-clause-csp
count_settlings-requires-clause-csp c = subst (λ (q : Contents). IsCsp (csp_of q)) (sym (c.in_ok-begun.ensures.problem ∙ c.requires.problem)) c.vars.ensures.csp

pub count_settlings-requires-clause-long : goal.count_settlings-requires-clause-long
count_settlings-requires-clause-long c = c.requires.long ∙ ap (λ (q : Contents). length q.domains) (sym (c.in_ok-begun.ensures.problem ∙ c.requires.problem))

pub returns-clause-measured : goal.returns-clause-measured
returns-clause-measured c = λ z none.
    let p = csp_of c.args.network.now.problem in
    let same = c.in_ok-begun.ensures.problem ∙ c.requires.problem in
    let n = c.vars.ensures.vars ∙ ap (λ (q : Contents). length q.domains) (sym c.requires.problem) in
    let settled = ap (settled_in (count p)) c.in_ok-begun.ensures.starts.steps ∙ ap (λ k. settled_in k (steps_of c.in_ok-begun.begun)) (sym n) ∙ sym c.settled_by-settled.ensures in
    let starts = subst (λ (q : Contents). StartsWith (csp_of q) c.settled_by-settled.result) c.requires.problem (subst (StartsWith p) settled (c.starts_in_order.ensures p)) in
    let counted = c.in_ok-count_settlings.ensures.counted (subst (λ (q : Contents). IsCounted (csp_of q) [] c.args.measures.now) (sym same) z) in
    let there = subst (λ (q : Contents). IsCounted (csp_of q) (start_acts (csp_of q)) c.count_settlings.new.measures) same counted in
    on_ok c.end_event.result c.end_event.ensures.ends (λ (k : EndsEvent 0 0 c.count_settlings.new.measures c.end_event.new.self).
    measured_start (csp_of c.args.problem.now) c.settled_by-settled.result starts c.args.measures.now c.count_settlings.new.measures c.end_event.new.self none c.in_ok-count_settlings.ensures.events k there)

pub returns-clause-stands : goal.returns-clause-stands
returns-clause-stands c = any_ok c.end_event.result (subst (λ (q : Contents). StandsAt c.start.new.self (start (csp_of q))) c.requires.problem c.in_ok-begun.ensures.starts.stands)

pub returns-clause-problem : goal.returns-clause-problem
returns-clause-problem c = c.in_ok-begun.ensures.problem ∙ c.requires.problem

pub returns-clause-long : goal.returns-clause-long
returns-clause-long c = c.end_event.ensures.long ∙ c.in_ok-count_settlings.ensures.long
