use Rattle.std.proofs.Common.{◌≡◌, true}
use Rattle.network_trials.proofs.networks.play.Given as goal

abbrev pub invariant-loop-told : goal.invariant-loop-told
invariant-loop-told g l = record {
  begun : l.network.begun ≡ true;
  problem : l.network.problem ≡ l.initial.network.problem;
}
