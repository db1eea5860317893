use Rattle.abt_story.proofs.Differing.{traces_differ}
use Rattle.abt_story.proofs.laws.traces_differ.Goals as goal

pub returns : goal.returns
returns c = traces_differ
