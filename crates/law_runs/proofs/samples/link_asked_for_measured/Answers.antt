use Rattle.std.proofs.Common.{refl}
use Rattle.law_runs.proofs.samples.link_asked_for_measured.Goals as goal

pub returns : goal.returns
returns c = record { rows = refl; clocks = refl; most = refl; learned = refl }
