use Rattle.std.proofs.Common.{◌≡◌, ◌<◌, ℕ, length, get_or}
use Rattle.dcsp_rule.specs.Problems.{csp_of}
use Rattle.dcsp_order.specs.Turns.{weight_of}
use Rattle.dcsp_order.proofs.by_rule.weights_of.Given as goal

abbrev pub invariant-loop-var : goal.invariant-loop-var
invariant-loop-var l = record {
  as_many : length l.weights.items ≡ l.var;
  each : (k : ℕ) → k < l.var → get_or l.weights.items k 0 ≡ weight_of l.rule (csp_of l.problem) k;
}
