use Rattle.std.proofs.Common.{◌≡◌, ◌&&◌, ◌∙◌, ap, arith, not, refl}
use Rattle.abt_agent.specs.Turns.{turn_with}
use Rattle.abt_agent.proofs.Receives.{same_stamp, refused_idle, refused_settles, ok_then}
use Rattle.abt_agent.proofs.body.AgentBody.receive_refuse.Goals as goal

pub settle-requires-clause-stamp : goal.settle-requires-clause-stamp
settle-requires-clause-stamp c =
    let same : c.heed.new.self.stamp ≡ c.args.self.now.stamp =
    same_stamp c.agents_only_learn.ensures c.args.number 0 c.args.recorded.step c.args.recorded.nogood c.args.recorded.nogood c.args.stamps.now c.args.self.now c.heed.new.self c.args.out.now c.heed.new.out
    refl c.in_ok-is_news.ensures.agent c.in_ok-is_news.ensures.sent in
    omega (arith, c.requires.stamp)

pub returns-then-goes_on_waiting-clause-does : goal.returns-then-goes_on_waiting-clause-does
returns-then-goes_on_waiting-clause-does c from =
    refused_idle c.agents_only_learn.ensures c.args.number from c.args.recorded.step c.args.recorded.nogood c.args.recorded.nogood c.args.stamps.now c.args.self.now c.heed.new.self c.args.out.now c.heed.new.out
    refl c.in_ok-is_news.ensures.agent c.in_ok-is_news.ensures.sent (c.if-goes_on_waiting.ensures ∙ ap (λ b. c.args.self.now.waits && not b) c.in_ok-is_news.ensures.news) c.in_ok-is_news.ensures.good.sized

pub returns-clause-does : goal.returns-clause-does
returns-clause-does c from =
    ok_then c.settle.result
    (λ kind d. refused_settles c.agents_only_learn.ensures c.args.number from c.args.recorded.step c.args.recorded.nogood c.args.recorded.nogood c.args.stamps.now c.args.self.now c.heed.new.self c.args.out.now c.heed.new.out
    refl c.in_ok-is_news.ensures.agent c.in_ok-is_news.ensures.sent c.settle.new.self c.settle.new.out (turn_with kind c.settle.new.made) c.in_ok-is_news.ensures.owner (c.if-goes_on_waiting.ensures ∙ ap (λ b. c.args.self.now.waits && not b) c.in_ok-is_news.ensures.news) d)
    c.settle.ensures.does
