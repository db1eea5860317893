use Rattle.std.proofs.Common.{refl}
use Rattle.law_runs.proofs.samples.in_order.Goals as goal

pub returns : goal.returns
returns c = record { run = refl; steps = refl; store = refl; fifth = refl }
