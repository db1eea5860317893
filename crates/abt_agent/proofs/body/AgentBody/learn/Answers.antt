use Rattle.abt_agent.proofs.Learns.{sized_still}
use Rattle.abt_agent.proofs.body.AgentBody.learn.Goals as goal

pub returns-clause-sized : goal.returns-clause-sized
returns-clause-sized c = sized_still c.args.self.now c.learn.new.self c.requires.sized c.learn.ensures.owner c.in_ok-is_news.ensures.in_step
