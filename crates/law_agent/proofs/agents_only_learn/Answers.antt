use Rattle.law_agent.proofs.Staying.{only_learns}
use Rattle.law_agent.proofs.agents_only_learn.Goals as goal

pub returns : goal.returns
returns c = only_learns
