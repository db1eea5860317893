use Rattle.fzn_model.proofs.First.{refuses_first}
use Rattle.fzn_model.proofs.laws.first_refusal.Goals as goal

pub returns : goal.returns
returns c = refuses_first
