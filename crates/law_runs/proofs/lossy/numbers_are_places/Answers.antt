use Rattle.law_runs.proofs.PacketPlaces.{numbers_are_places}
use Rattle.law_runs.proofs.lossy.numbers_are_places.Goals as goal

pub returns : goal.returns
returns c = numbers_are_places
