use Rattle.law_runs.proofs.WorldSizes.{world_is_small}
use Rattle.law_runs.proofs.lossy.world_is_small.Goals as goal

pub returns : goal.returns
returns c = world_is_small
