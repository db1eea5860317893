use Rattle.abt_story.proofs.Differing.{stories_differ}
use Rattle.abt_story.proofs.laws.stories_differ.Goals as goal

pub returns : goal.returns
returns c = λ order p. stories_differ order p
