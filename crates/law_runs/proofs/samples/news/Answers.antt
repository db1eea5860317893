use Rattle.std.proofs.Common.{refl}
use Rattle.law_runs.proofs.samples.news.Goals as goal

pub returns : goal.returns
returns c = record { told = refl }
