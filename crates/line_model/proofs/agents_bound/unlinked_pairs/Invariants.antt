use Rattle.std.proofs.Common.{◌≡◌, ◌≤◌, ◌*◌}
use Rattle.dcsp_defs.specs.Words.{sum_below}
use Rattle.dcsp_rule.specs.Problems.{csp_of}
use Rattle.line_model.proofs.Pairs.{counted_lower}
use Rattle.line_model.proofs.agents_bound.unlinked_pairs.Given as goal

abbrev pub invariant-loop-var : goal.invariant-loop-var
invariant-loop-var l = record {
  pairs : l.pairs ≡ sum_below (counted_lower (csp_of l.problem)) l.var;
  small : l.pairs ≤ l.var * 4294967295;
}
