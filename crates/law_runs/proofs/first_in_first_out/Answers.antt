use Rattle.law_runs.proofs.Links.{first_in_first_out}
use Rattle.law_runs.proofs.first_in_first_out.Goals as goal

pub returns : goal.returns
returns c = first_in_first_out
