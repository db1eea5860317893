use Rattle.std.proofs.Common.{◌≡◌, ◌∙◌, ◌++◌, ◌≤◌, ℕ, List, ap, subst, sym}
use Rattle.std.specs.Prelude.{OnOk, option_copied}
use Rattle.std.specs.List.{flat_map}
use Rattle.dcsp_defs.specs.Words.{below}
use Rattle.dcsp_defs.specs.Csp.{count}
use Rattle.dcsp_defs.specs.declared.Step.{Step}
use Rattle.dcsp_rule.specs.Problems.{Contents, csp_of}
use Rattle.abt_defs.specs.Network.{start}
use Rattle.law_runs.specs.Starts.{settled_in, StartsWith}
use Rattle.abt_network.specs.Standing.{steps_of}
use Rattle.abt_story.specs.Telling.{agentless}
use Rattle.abt_story.specs.Texts.{lines_text}
use Rattle.abt_story.specs.Looking.{first_text}
use Rattle.abt_story.proofs.Growing.{piece_last}
use Rattle.abt_story.proofs.Starts.{start_text}
use Rattle.abt_story.proofs.start.tell_start.Goals as goal

pub settled_by-settled-requires : goal.settled_by-settled-requires
settled_by-settled-requires c =
    let p = csp_of c.args.model.problem.now in
    let steps = ap (λ (q : Contents). (start (csp_of q)).steps) (sym c.requires.problem) ∙ c.in_ok-begun.ensures.starts.steps in
    let few = subst (λ (l : List Step). settled_in (count p) l ≤ count p) steps (c.starts_in_order.ensures p).few in
    subst (λ k. settled_in k (steps_of c.in_ok-begun.begun) ≤ k) (sym c.vars.ensures.vars) few

pub tell_settlings-requires-clause-starts : goal.tell_settlings-requires-clause-starts
tell_settlings-requires-clause-starts c =
    let p = csp_of c.args.model.problem.now in
    let steps = ap (λ (q : Contents). (start (csp_of q)).steps) (sym c.requires.problem) ∙ c.in_ok-begun.ensures.starts.steps in
    let settled = ap (settled_in (count p)) steps ∙ ap (λ k. settled_in k (steps_of c.in_ok-begun.begun)) (sym c.vars.ensures.vars) ∙ sym c.settled_by-settled.ensures in
    subst (StartsWith p) settled (c.starts_in_order.ensures p)

pub returns-clause-told : goal.returns-clause-told
returns-clause-told c =
    let p = csp_of c.args.model.problem.now in
    let old = c.args.into.now.items in
    let n = c.settled_by-settled.result in
    let steps = ap (λ (q : Contents). (start (csp_of q)).steps) (sym c.requires.problem) ∙ c.in_ok-begun.ensures.starts.steps in
    let settled = ap (settled_in (count p)) steps ∙ ap (λ k. settled_in k (steps_of c.in_ok-begun.begun)) (sym c.vars.ensures.vars) ∙ sym c.settled_by-settled.ensures in
    let starts = subst (StartsWith p) settled (c.starts_in_order.ensures p) in
    let told = ap (λ l. lines_text (agentless l) ++ flat_map (first_text (option_copied c.args.model.order) p) (below n)) (sym steps) ∙ sym (start_text (option_copied c.args.model.order) p n starts) in
    subst (λ (t : List ℕ). OnOk c.tell_settlings.result (c.tell_settlings.new.into.items ≡ old ++ t)) told (piece_last c.tell_settlings.result old _ _ _ _ c.in_ok-tell_agentless.ensures c.tell_settlings.ensures)
