use Rattle.std.proofs.Common.{refl}
use Rattle.law_runs.proofs.samples.one_agents_reasons.Goals as goal

pub returns : goal.returns
returns c = record { reasons = refl; refused = refl }
