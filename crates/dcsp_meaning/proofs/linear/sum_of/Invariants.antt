use Rattle.std.proofs.Common.{◌≡◌, ◌+◌, ◌≤◌, ◌+ℤ◌, drop, sum_by}
use Rattle.std.specs.Prelude.{unsigned_abs}
use Rattle.dcsp_meaning.specs.Sums.{sum_of, size_of}
use Rattle.dcsp_meaning.specs.declared.linear.TheConstants.{WIDEST}
use Rattle.dcsp_meaning.proofs.linear.sum_of.Given as goal

abbrev pub invariant-loop-place : goal.invariant-loop-place
invariant-loop-place g l = record {
  summed : l.sum +ℤ sum_of (drop l.place (g.W.Weighted.pairs l.weighted)) ≡ sum_of (g.W.Weighted.pairs l.weighted);
  fits : unsigned_abs l.sum + sum_by size_of (drop l.place (g.W.Weighted.pairs l.weighted)) ≤ WIDEST;
}
