use Rattle.std.proofs.Common.{◌≡◌, ◌∙◌, ◌++◌, List, OnOk, ap, subst, sym, map}
use Rattle.std.specs.Prelude.{option_copied}
use Rattle.dcsp_defs.specs.Csp.{domain}
use Rattle.dcsp_rule.specs.Problems.{csp_of}
use Rattle.abt_defs.specs.Agents.{Agent}
use Rattle.abt_story.specs.Facts.{Fact}
use Rattle.abt_story.specs.Telling.{answers, came_with, drops, named_in, reason, reason_before, receives, rules_out, steps_of, takes}
use Rattle.abt_story.specs.Texts.{facts_text}
use Rattle.abt_story.specs.Looking.{reason_in, sent_facts, steps_in}
use Rattle.abt_story.proofs.Deeds.{facts_are, learned_is, ruled_is, steps_are}
use Rattle.abt_story.proofs.Growing.{facts_last, facts_more}
use Rattle.abt_story.proofs.deed.push_deed.Goals as goal

pub returns : goal.returns
returns c = λ a seen done.
    let deed = c.args.deed.now in
    let event = deed.who.event in
    let order = option_copied deed.order in
    let i = deed.who.agent in
    let old = c.args.into.now.items in
    let s = c.args.agent.now in
    let p = csp_of s.problem in
    let told = reason_before p s.me a.came a.before in
    let before = c.deref-3.ensures.value ∙ seen.reasons ∙ ap (map told) (sym c.requires.domain) in
    let two = facts_more event i old _ _ _ _ c.in_ok-push_came.ensures c.in_ok-push_entered.ensures in
    let three = facts_more event i old _ _ _ _ two c.in_ok-push_dropped.ensures in
    let four = facts_more event i old _ _ _ _ three c.in_ok-push_answer.ensures in
    let five = facts_more event i old _ _ _ _ four (c.in_ok-push_out.ensures told before) in
    let six = facts_more event i old _ _ _ _ five c.in_ok-push_taken.ensures in
    let seven = facts_more event i old _ _ _ _ six c.in_ok-push_made.ensures in
    let all = facts_last c.push_sent.result event i old _ _ _ _ seven c.push_sent.ensures in
    let kept = steps_are c.nogoods.result.now a.after (c.nogoods.ensures ∙ ap (λ (x : Agent). x.recorded) done.after) in
    let kept-2 = steps_are c.nogoods-2.result.now a.after (c.nogoods-2.ensures ∙ ap (λ (x : Agent). x.recorded) done.after) in
    let is = facts_are order p deed.made a _ _ _ _ _ _ _
    (ap receives done.came)
    (learned_is (named_in order a.came) a.before a.after _ _ (c.deref.ensures.value ∙ seen.known) (ap (λ (x : Agent). x.view) done.after))
    (ap (λ l. drops l (steps_in c.nogoods.result.now)) (c.deref-2.ensures.value ∙ seen.kept) ∙ ap (drops (steps_of a.before)) kept)
    (ap (λ x. answers x (steps_in c.nogoods-2.result.now)) done.came ∙ ap (answers (came_with a.came)) kept-2)
    (ap (λ l. rules_out l told (reason_in s)) c.requires.domain ∙ ruled_is s a done.after done.me told ∙ ap (λ j. rules_out (domain p a.agent) (reason_before p j a.came a.before) (reason p a.agent a.after)) done.me)
    (ap (λ n. takes n s.stamp s.value) seen.stamp ∙ ap (λ (x : Agent). takes a.before.stamp x.stamp x.value) done.after)
    (ap (λ v. sent_facts deed.sent.now v deed.made) (c.value.ensures.value ∙ ap (λ (x : Agent). x.value) done.after) ∙ done.sent) in
    subst (λ (l : List Fact). OnOk c.push_sent.result (c.push_sent.new.into.items ≡ old ++ facts_text event i l)) is all
