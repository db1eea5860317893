use Rattle.fzn_model.proofs.Once.{once}
use Rattle.fzn_model.proofs.laws.one_answer.Goals as goal

pub returns : goal.returns
returns c = once
