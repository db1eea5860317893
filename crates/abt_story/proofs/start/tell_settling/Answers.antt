use Rattle.std.proofs.Common.{◌∙◌, ◌++◌, None, ap, map, refl, subst, sym}
use Rattle.dcsp_rule.specs.Problems.{Contents, csp_of}
use Rattle.abt_defs.specs.Agents.{fresh}
use Rattle.abt_agent.specs.States.{stands_for}
use Rattle.abt_parts.specs.Messages.{told_sent}
use Rattle.law_runs.specs.Starts.{first_act, first_outcome}
use Rattle.std.specs.Prelude.{option_copied}
use Rattle.dcsp_order.specs.Told.{number_told}
use Rattle.abt_story.specs.Numbers.{facts_told}
use Rattle.abt_story.specs.Telling.{facts, first_step}
use Rattle.abt_story.specs.Texts.{facts_text}
use Rattle.abt_story.specs.Looking.{sent_facts, IsSeen}
use Rattle.abt_story.proofs.Starts.{first_carries}
use Rattle.abt_story.proofs.start.tell_settling.Goals as goal

pub returns : goal.returns
returns c =
    let order = option_copied c.args.model.order in
    let i = c.args.agent in
    let p = csp_of c.args.model.problem.now in
    let o = first_outcome p i in
    let s = c.agent-settled.result.now in
    let before = c.in_ok-before.before in
    let start = c.args.into.now.items in
    let seat = c.agent-settled.ensures.seat c.requires.sound in
    let problem = seat.problem ∙ c.requires.problem in
    let after = ap stands_for c.agent-settled.ensures.agent ∙ c.requires.settled in
    let made = c.first_step.ensures ∙ ap first_step after in
    let was = c.in_ok-before.ensures in
    let seen : IsSeen order p i None (fresh p i) before = record { known = was.known; kept = was.kept; reasons = was.reasons ∙ ap (map (λ v. None)) c.domain-domain.ensures; stamp = was.stamp } in
    let mine = subst (λ (q : Contents). IsSeen order (csp_of q) s.me None (fresh p i) before) (sym problem) (subst (λ j. IsSeen order p j None (fresh p i) before) (sym seat.me) seen) in
    let sent = ap (λ l. sent_facts l o.agent.value c.first_step.result) (c.deref.ensures.value ∙ c.in_ok-sent.ensures) ∙ ap (sent_facts (map told_sent o.sent) o.agent.value) made ∙ first_carries p i in
    c.in_ok-push_deed.ensures (first_act p i) mine (record { agent = c.number_told.ensures; me = seat.me; came = refl; after = after; sent = sent })
    ∙ ap (λ j. start ++ facts_text 0 j (facts_told order (facts order (csp_of s.problem) c.first_step.result (first_act p i)))) c.number_told.ensures
    ∙ ap (λ (q : Contents). start ++ facts_text 0 (number_told order i) (facts_told order (facts order (csp_of q) c.first_step.result (first_act p i)))) problem
    ∙ ap (λ m. start ++ facts_text 0 (number_told order i) (facts_told order (facts order p m (first_act p i)))) made
