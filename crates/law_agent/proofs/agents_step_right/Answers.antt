use Rattle.law_agent.proofs.OneAgent.{agents_step_right}
use Rattle.law_agent.proofs.agents_step_right.Goals as goal

pub returns : goal.returns
returns c = agents_step_right
