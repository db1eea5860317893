use Rattle.std.proofs.Common.{◌≡◌, true}
use Rattle.network_trials.proofs.spent.make_events.Given as goal

abbrev pub invariant-loop-made : goal.invariant-loop-made
invariant-loop-made g l = l.medium.begun ≡ true
