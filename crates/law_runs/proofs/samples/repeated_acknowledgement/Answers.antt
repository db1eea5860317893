use Rattle.std.proofs.Common.{refl}
use Rattle.law_runs.proofs.samples.repeated_acknowledgement.Goals as goal

pub returns : goal.returns
returns c = record { events = refl; acknowledged = refl }
