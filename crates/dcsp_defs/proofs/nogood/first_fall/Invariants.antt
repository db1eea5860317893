use Rattle.std.proofs.Common.{ℕ, ◌+◌, ◌<◌}
use Rattle.dcsp_defs.specs.Pairs.{var_at}
use Rattle.dcsp_defs.proofs.nogood.first_fall.Given as goal

abbrev pub invariant-loop-k : goal.invariant-loop-k
invariant-loop-k l = (m : ℕ) → m + 1 < l.k → var_at l.pairs m < var_at l.pairs (m + 1)
