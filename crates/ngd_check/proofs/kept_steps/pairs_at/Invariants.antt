use Rattle.std.proofs.Common.{◌≡◌, ◌≤◌, length, take, vec_len, vec_capacity}
use Rattle.dcsp_rule.specs.Problems.{csp_of}
use Rattle.ngd_check.specs.Places.{pairs_of}
use Rattle.ngd_check.proofs.kept_steps.pairs_at.Given as goal

-- the pairs so far, with room for the others
abbrev pub invariant-loop-one : goal.invariant-loop-one
invariant-loop-one l = record {
  same : l.pairs.items ≡ pairs_of (csp_of l.problem) (take l.one-index l.placed);
  count : vec_len l.pairs ≡ l.one-index;
  room : length l.placed ≤ vec_capacity l.pairs;
}
