use Rattle.law_runs.proofs.Keeping.{delivers_sent}
use Rattle.law_runs.proofs.measures.delivers_sent.Goals as goal

pub returns : goal.returns
returns c = delivers_sent
