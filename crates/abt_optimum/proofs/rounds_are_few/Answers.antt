use Rattle.std.proofs.Common.{refl}
use Rattle.abt_optimum.proofs.Fewer.{few, room, halved}
use Rattle.abt_optimum.proofs.rounds_are_few.Goals as goal

pub returns-clause-few : goal.returns-clause-few
returns-clause-few c = λ halves p rounds rising h. few halves p rising rounds h

pub returns-clause-room : goal.returns-clause-room
returns-clause-room c = λ halves p rounds rising h still. room halves p rising rounds h still

pub returns-clause-halved : goal.returns-clause-halved
returns-clause-halved c = λ p rounds rising h. halved _ p (λ _. rising) rounds h refl
