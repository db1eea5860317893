use Rattle.law_agent.proofs.Merges.{merges_are_unions}
use Rattle.law_agent.proofs.merges_are_unions.Goals as goal

pub returns : goal.returns
returns c = merges_are_unions
