use Rattle.std.proofs.Common.{List, ℕ, sym, subst, ap, ◌∙◌}
use Rattle.dcsp_defs.specs.Pairs.{IsRising as PairsRise}
use Rattle.dcsp_rule.specs.Problems.{Contents}
use Rattle.abt_defs.specs.Steps as steps
use Rattle.abt_parts.specs.Messages.{with_stamps}
use Rattle.abt_parts.specs.Stores.{record_of}
use Rattle.abt_parts.specs.declared.message.Sent.{Sent}
use Rattle.abt_parts.specs.Outgoing.{Posts}
use Rattle.abt_agent.specs.Bodies.{agent_of, requests_for, AreProper, IsProper}
use Rattle.abt_agent.proofs.Learns.{left_proper, heeded, asked_for}
use Rattle.abt_agent.proofs.Proper.{proper_nogood}
use Rattle.abt_agent.proofs.Receives.{good_heeded}
use Rattle.abt_agent.proofs.body.AgentBody.heed.Goals as goal

pub learn_all-requires-clause-rising : goal.learn_all-requires-clause-rising
learn_all-requires-clause-rising c = subst PairsRise (sym c.pairs-2.ensures.pairs) c.pairs-2.ensures.rising

pub keep-requires-clause-fits : goal.keep-requires-clause-fits
keep-requires-clause-fits c =
    c.in_ok-learned.ensures.fits
    ∙ ap (λ (x : Contents × ℕ). steps.fits x.1 c.pairs-2.result.now (agent_of c.learn_all.new.self)) (sym c.learn_all.ensures.owner)
    ∙ ap (λ z. steps.fits c.learn_all.new.self.known.me z (agent_of c.learn_all.new.self)) c.pairs-2.ensures.pairs

pub keep-requires-clause-nogood : goal.keep-requires-clause-nogood
keep-requires-clause-nogood c =
    subst (λ (x : Contents × ℕ). IsProper x.0 x.1 c.args.recorded.nogood) (sym (c.learn_all.ensures.owner ∙ c.in_ok-ask.ensures.owner))
    (proper_nogood c.args.self.now.known.problem.now c.args.self.now.known.me c.args.recorded.nogood c.args.stamps.now c.requires.good.sized.in_step.me_exists c.pairs.ensures.rising c.requires.nogood)

pub keep-requires-clause-kept : goal.keep-requires-clause-kept
keep-requires-clause-kept c =
    let stamped = with_stamps c.pairs-2.result.now c.args.stamps.now in
    subst (λ (x : Contents × ℕ). AreProper x.0 x.1 c.learn_all.new.self.known.store) (sym (c.learn_all.ensures.owner ∙ c.in_ok-ask.ensures.owner))
    (left_proper c.agents_only_learn.ensures c.args.self.now.known.problem.now c.args.self.now.known.me c.pairs.result.now stamped (agent_of c.args.self.now) (agent_of c.learn_all.new.self) c.requires.good.sound
    (c.in_ok-learned.ensures.agent ∙ ap (λ (x : Contents × ℕ). steps.learn_all x.1 stamped (agent_of c.ask.new.self)) c.in_ok-ask.ensures.owner
    ∙ ap (steps.learn_all c.args.self.now.known.me stamped) c.in_ok-ask.ensures.agent))

pub returns-clause-agent : goal.returns-clause-agent
returns-clause-agent c =
    let stamped = with_stamps c.pairs-2.result.now c.args.stamps.now in
    heeded c.args.self.now.known.me c.args.recorded.step c.args.recorded.nogood c.pairs.result.now c.pairs-2.result.now c.args.stamps.now (agent_of c.args.self.now) (agent_of c.ask.new.self) (agent_of c.learn_all.new.self) (agent_of c.keep.new.self)
    c.pairs.ensures.pairs c.pairs-2.ensures.pairs c.in_ok-ask.ensures.agent
    (c.in_ok-learned.ensures.agent ∙ ap (λ (x : Contents × ℕ). steps.learn_all x.1 stamped (agent_of c.ask.new.self)) c.in_ok-ask.ensures.owner)
    (c.in_ok-keep.ensures.agent ∙ ap (λ (x : Contents × ℕ). steps.keep x.1 (record_of c.args.recorded) (agent_of c.learn_all.new.self)) (c.learn_all.ensures.owner ∙ c.in_ok-ask.ensures.owner))

pub returns-clause-sent : goal.returns-clause-sent
returns-clause-sent c =
    subst (λ (went : List Sent). Posts c.args.out.now went (requests_for c.args.self.now c.args.recorded c.args.stamps.now)) (sym c.keep.ensures.out)
    (asked_for c.args.self.now.known.me c.args.recorded.nogood c.pairs.result.now c.args.stamps.now (agent_of c.args.self.now) c.args.out.now c.ask.new.out c.pairs.ensures.pairs c.in_ok-ask.ensures.sent)

pub returns-clause-good : goal.returns-clause-good
returns-clause-good c =
    good_heeded c.agents_stay_sound.ensures c.args.recorded.step c.args.recorded.nogood c.args.stamps.now c.args.self.now c.keep.new.self c.requires.good (c.in_ok-keep.ensures.owner ∙ c.learn_all.ensures.owner ∙ c.in_ok-ask.ensures.owner) c.in_ok-keep.ensures.sized
    (proper_nogood c.args.self.now.known.problem.now c.args.self.now.known.me c.args.recorded.nogood c.args.stamps.now c.requires.good.sized.in_step.me_exists c.pairs.ensures.rising c.requires.nogood) (returns-clause-agent c)

pub returns-clause-news : goal.returns-clause-news
returns-clause-news c =
    let old = c.args.self.now in
    let stamped = with_stamps c.pairs-2.result.now c.args.stamps.now in
    c.in_ok-learned.ensures.news
    ∙ ap (λ (x : Contents × ℕ). steps.is_news x.1 stamped (agent_of c.ask.new.self)) c.in_ok-ask.ensures.owner
    ∙ ap (steps.is_news old.known.me stamped) c.in_ok-ask.ensures.agent
    ∙ ap (λ z. steps.is_news old.known.me (with_stamps z c.args.stamps.now) (agent_of old)) c.pairs-2.ensures.pairs
