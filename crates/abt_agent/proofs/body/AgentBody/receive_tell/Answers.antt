use Rattle.abt_agent.proofs.Receives.{good_learned}
use Rattle.abt_agent.proofs.body.AgentBody.receive_tell.Goals as goal

pub settle-requires-clause-good : goal.settle-requires-clause-good
settle-requires-clause-good c =
    good_learned c.agents_stay_sound.ensures c.args.from (record { value = c.args.told.value; stamp = c.args.told.stamp }) c.args.self.now c.learn.new.self c.requires.good c.learn.ensures.owner c.in_ok-is_news.ensures.sized
    c.requires.fit.higher c.requires.fit.value_in c.in_ok-is_news.ensures.agent

pub returns-then-not-is_news-clause-good : goal.returns-then-not-is_news-clause-good
returns-then-not-is_news-clause-good c =
    good_learned c.agents_stay_sound.ensures c.args.from (record { value = c.args.told.value; stamp = c.args.told.stamp }) c.args.self.now c.learn.new.self c.requires.good c.learn.ensures.owner c.in_ok-is_news.ensures.sized
    c.requires.fit.higher c.requires.fit.value_in c.in_ok-is_news.ensures.agent
