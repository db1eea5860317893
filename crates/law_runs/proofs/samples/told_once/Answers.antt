use Rattle.std.proofs.Common.{refl}
use Rattle.law_runs.proofs.samples.told_once.Goals as goal

pub returns : goal.returns
returns c = record { sent = refl; step = refl }
