use Rattle.std.proofs.Common.{◌≡◌}
use Rattle.dcsp_domain.specs.Ranges.{numbers_from}
use Rattle.dcsp_domain.proofs.numbers_from.Given as goal

abbrev pub invariant-loop-place : goal.invariant-loop-place
invariant-loop-place l = l.values.items ≡ numbers_from l.low l.place
