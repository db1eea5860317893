use Rattle.law_agent.proofs.Staying.{agents_stay_sound}
use Rattle.law_agent.proofs.agents_stay_sound.Goals as goal

pub returns : goal.returns
returns c = agents_stay_sound
