use Rattle.law_agent.proofs.Lengths.{bounded_store}
use Rattle.law_agent.proofs.sound_stores.Goals as goal

pub returns : goal.returns
returns c = bounded_store
