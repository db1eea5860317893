use Rattle.std.proofs.Common.{◌∙◌, ◌++◌, ◌==◌, None, Some, ap, length, map, sym, subst}
use Rattle.std.specs.Prelude.{if◌then◌else◌}
use Rattle.dcsp_rule.specs.Problems.{Contents, csp_of}
use Rattle.abt_parts.specs.Messages.{told_sent}
use Rattle.std.specs.Prelude.{option_copied}
use Rattle.dcsp_order.specs.Told.{number_told}
use Rattle.abt_story.specs.Numbers.{facts_told}
use Rattle.abt_story.specs.Telling.{facts}
use Rattle.abt_story.specs.Texts.{facts_text}
use Rattle.abt_story.specs.Looking.{sent_facts, IsSeen}
use Rattle.abt_story.proofs.delivery.tell_made.Goals as goal

pub returns : goal.returns
returns c = λ a old net st seen is.
    let d = c.args.delivery.now in
    let before = c.args.before.now in
    let order = option_copied c.args.model.order in
    let s = c.agent.result.now in
    let start = c.args.into.now.items in
    let seat = c.agent.ensures.seat c.requires.sound in
    let problem = seat.problem ∙ c.requires.problem in
    let made = c.step_since.ensures ∙ ap (λ n. if c.steps.result == n then None else Some c.steps.result) is.steps_is ∙ ap (λ n. if n == length old.steps then None else Some n) (c.steps.ensures.steps ∙ st.steps) in
    let sent = ap (λ l. sent_facts l a.after.value c.step_since.result) (c.sent.ensures ∙ is.told_is) ∙ ap (sent_facts (map told_sent a.sent) a.after.value) made ∙ is.carries in
    let mine = subst (λ (q : Contents). IsSeen order (csp_of q) s.me a.came a.before before) (sym problem) (subst (λ j. IsSeen order (csp_of c.args.model.problem.now) j a.came a.before before) (sym seat.me) seen) in
    c.in_ok-push_deed.ensures a mine (record { agent = c.number_told.ensures ∙ ap (number_told order) (sym is.agent); me = seat.me ∙ sym is.agent; came = sym is.came; after = c.agent.ensures.machine net st ∙ is.after; sent = sent })
    ∙ ap (λ n. start ++ facts_text n c.number_told.result (facts_told order (facts order (csp_of s.problem) c.step_since.result a))) (c.deliveries.ensures ∙ st.deliveries)
    ∙ ap (λ j. start ++ facts_text net.deliveries j (facts_told order (facts order (csp_of s.problem) c.step_since.result a))) c.number_told.ensures
    ∙ ap (λ (q : Contents). start ++ facts_text net.deliveries (number_told order d.to) (facts_told order (facts order (csp_of q) c.step_since.result a))) problem
    ∙ ap (λ m. start ++ facts_text net.deliveries (number_told order d.to) (facts_told order (facts order (csp_of c.args.model.problem.now) m a))) made
