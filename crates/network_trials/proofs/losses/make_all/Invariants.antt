use Rattle.std.proofs.Common.{◌≡◌, true}
use Rattle.network_trials.proofs.losses.make_all.Given as goal

abbrev pub invariant-loop-row : goal.invariant-loop-row
invariant-loop-row g l = record {
  begun : l.medium.begun ≡ true;
  problem : l.medium.problem ≡ l.fn.medium.problem;
}
