use Rattle.std.proofs.Common.{refl}
use Rattle.law_runs.proofs.samples.nogood_while_waiting.Goals as goal

pub returns : goal.returns
returns c = record { run = refl; steps = refl; bound = refl }
