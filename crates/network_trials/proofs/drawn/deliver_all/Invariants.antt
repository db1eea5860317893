use Rattle.std.proofs.Common.{◌≡◌, true}
use Rattle.network_trials.proofs.drawn.deliver_all.Given as goal

abbrev pub invariant-loop-made : goal.invariant-loop-made
invariant-loop-made g l = record {
  begun : l.network.begun ≡ true;
  problem : l.network.problem ≡ l.initial.network.problem;
}
