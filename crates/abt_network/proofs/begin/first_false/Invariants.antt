use Rattle.std.proofs.Common.{◌≡◌, ◌<◌, ℕ, false}
use Rattle.abt_defs.specs.Network.{is_false}
use Rattle.dcsp_rule.specs.Problems.{constraint_at}
use Rattle.abt_network.proofs.begin.first_false.Given as goal

abbrev pub invariant-loop-rule : goal.invariant-loop-rule
invariant-loop-rule l = (j : ℕ) → j < l.rule → is_false (constraint_at l.problem j) ≡ false
