use Rattle.std.proofs.Common.{refl}
use Rattle.law_runs.proofs.samples.link_asked_for.Goals as goal

pub returns : goal.returns
returns c = record { run = refl; steps = refl; trace = refl; bound = refl }
