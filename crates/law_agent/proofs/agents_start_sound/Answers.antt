use Rattle.law_agent.proofs.Staying.{agents_start_sound}
use Rattle.law_agent.proofs.agents_start_sound.Goals as goal

pub returns : goal.returns
returns c = agents_start_sound
