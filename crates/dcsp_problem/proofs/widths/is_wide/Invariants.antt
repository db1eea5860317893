use Rattle.std.proofs.Common.{◌≡◌, ◌+◌, ◌≤◌, drop, map, sum_by, zip}
use Rattle.dcsp_meaning.specs.Sums.{greatest_size, width_of}
use Rattle.dcsp_meaning.specs.declared.linear.TheConstants.{WIDEST}
use Rattle.dcsp_rule.specs.Widths.{greatest_of}
use Rattle.dcsp_problem.proofs.widths.is_wide.Given as goal

abbrev pub invariant-loop-place : goal.invariant-loop-place
invariant-loop-place l = record {
  summed : l.width + sum_by greatest_size (drop l.place (zip l.coefs (map (greatest_of l.domains) l.terms))) ≡ width_of l.coefs (map (greatest_of l.domains) l.terms) l.total;
  fits : l.width ≤ WIDEST;
}
