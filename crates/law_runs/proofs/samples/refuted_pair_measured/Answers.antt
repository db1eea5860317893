use Rattle.std.proofs.Common.{refl}
use Rattle.law_runs.proofs.samples.refuted_pair_measured.Goals as goal

pub returns : goal.returns
returns c = record { rows = refl; clocks = refl; most = refl; learned = refl }
