use Rattle.std.proofs.Common.{◌<◌, take}
use Rattle.std.specs.Prelude.{All}
use Rattle.network_trials.proofs.seats.are_positive.Given as goal

abbrev pub invariant-loop-stamp : goal.invariant-loop-stamp
invariant-loop-stamp l = All (λ stamp. 0 < stamp) (take l.stamp-index l.stamps)
