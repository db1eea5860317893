use Rattle.std.proofs.Common.{◌≡◌, length}
use Rattle.model_trials.proofs.bounds.problem.Given as goal

abbrev pub invariant-loop-size : goal.invariant-loop-size
invariant-loop-size g l = l.vars ≡ length l.builder.domains

abbrev pub invariant-loop-pair : goal.invariant-loop-pair
invariant-loop-pair g l = l.vars ≡ length l.builder.domains
