use Rattle.law_agent.proofs.Merges.{union_of_reasons}
use Rattle.law_agent.proofs.sound_merges.Goals as goal

pub returns : goal.returns
returns c p ok i a h = union_of_reasons p ok i a h
