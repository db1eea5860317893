use Rattle.abt_story.proofs.Runs.{nothing_is_hidden}
use Rattle.abt_story.proofs.laws.nothing_is_hidden.Goals as goal

pub returns : goal.returns
returns c = λ order p. nothing_is_hidden order p
