use Rattle.law_agent.proofs.StepRuns.{steps_right}
use Rattle.law_agent.proofs.steps_right.Goals as goal

pub returns : goal.returns
returns c = steps_right
