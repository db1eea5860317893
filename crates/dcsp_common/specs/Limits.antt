-- Limits on the size of a problem.
use Rattle.std.specs.Prelude.{ℕ}
use Rattle.dcsp_common.specs.declared.limits.Which.{Which}
use Rattle.dcsp_common.specs.declared.limits.Which.TheVariants.{DomainSize, Variables, DomainValues, Rules, Terms, Elements}

-- the greatest number that is allowed
abbrev pub most : Which → ℕ
most DomainSize = 65536
most Variables = 4096
most DomainValues = 1048576
most Rules = 262144
most Terms = 1048576
most Elements = 65536
