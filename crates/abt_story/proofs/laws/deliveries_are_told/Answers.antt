use Rattle.abt_story.proofs.Traces.{deliveries_are_told}
use Rattle.abt_story.proofs.laws.deliveries_are_told.Goals as goal

pub returns : goal.returns
returns c = λ order p. deliveries_are_told order p
