use Rattle.std.proofs.Common.{refl}
use Rattle.law_runs.proofs.samples.lost_acknowledgement.Goals as goal

pub returns : goal.returns
returns c = record { events = refl; before = refl; acknowledged = refl }
