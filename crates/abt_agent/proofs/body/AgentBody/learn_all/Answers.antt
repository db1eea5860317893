use Rattle.std.proofs.Common.{sym}
use Rattle.abt_parts.specs.Messages.{with_stamps}
use Rattle.abt_agent.specs.Bodies.{agent_of}
use Rattle.abt_agent.proofs.Fits.{is_quiet, learns_nothing}
use Rattle.abt_agent.proofs.body.AgentBody.learn_all.Goals as goal

pub returns-in-Some-clause-agent : goal.returns-in-Some-clause-agent
returns-in-Some-clause-agent c =
    sym (learns_nothing c.args.self.now.known.me (with_stamps c.args.pairs.now c.args.stamps.now) (agent_of c.args.self.now) (is_quiet _ c.in-Some.ensures.news))
