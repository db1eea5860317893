use Rattle.std.proofs.Common.{refl}
use Rattle.law_runs.proofs.samples.calm_solved.Goals as goal

pub returns : goal.returns
returns c = record { end = refl; values = refl; words = refl; given = refl; over = refl }
