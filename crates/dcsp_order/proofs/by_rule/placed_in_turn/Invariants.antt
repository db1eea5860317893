use Rattle.std.proofs.Common.{◌≡◌, length}
use Rattle.dcsp_rule.specs.Problems.{csp_of}
use Rattle.dcsp_order.proofs.Placing.{AreCounts, IsPartly}
use Rattle.dcsp_order.proofs.by_rule.placed_in_turn.Given as goal

abbrev pub invariant-loop-place : goal.invariant-loop-place
invariant-loop-place l = record {
  partly : IsPartly l.rule (csp_of l.problem) l.numbers.items;
  count : length l.numbers.items ≡ l._place;
  counts : AreCounts l.rule (csp_of l.problem) l.numbers.items l.left.items l.linked.items;
}
