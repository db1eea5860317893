use Rattle.std.proofs.Common.{◌≡◌, length}
use Rattle.agent_trials.proofs.reasons.free.Given as goal

abbrev pub invariant-loop-high : goal.invariant-loop-high
invariant-loop-high g l = length l.builder.domains ≡ l.high-index
