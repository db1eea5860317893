use Rattle.std.proofs.Common.{◌≡◌, ◌+◌, ◌≤◌, drop, sum_by, zip}
use Rattle.dcsp_meaning.specs.Sums.{greatest_size, width_of}
use Rattle.dcsp_meaning.specs.declared.linear.TheConstants.{WIDEST}
use Rattle.dcsp_meaning.proofs.linear.width.Given as goal

abbrev pub invariant-loop-place : goal.invariant-loop-place
invariant-loop-place l = record {
  summed : l.width + sum_by greatest_size (drop l.place (zip l.coefs l.greatest)) ≡ width_of l.coefs l.greatest l.total;
  fits : l.width ≤ WIDEST;
}
