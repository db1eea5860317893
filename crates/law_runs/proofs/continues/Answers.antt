use Rattle.law_runs.proofs.Next.{continues}
use Rattle.law_runs.proofs.continues.Goals as goal

pub returns : goal.returns
returns c = continues
