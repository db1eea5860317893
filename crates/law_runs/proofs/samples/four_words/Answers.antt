use Rattle.std.proofs.Common.{refl}
use Rattle.law_runs.proofs.samples.four_words.Goals as goal

pub returns : goal.returns
returns c = record { events = refl; once = refl; pool = refl }
